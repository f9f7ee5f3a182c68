-- How `Serves`, `Halts` and `Ends` follow from one another.
use Rattle.std.proofs.Common.{◌≡◌, ◌∙◌, sym, ap, refl, subst, ℕ, ◌<◌, Bool, true, false, ◌&&◌, List, [], ◌∷◌, ◌++◌, append-nil, append_assoc, length, take, map, Result, Ok, Err, OnOk, arith}
use Rattle.std.specs.List.{AllZip, concat}
use Rattle.std.proofs.lemmas.List.Folds.{concat-append, list_all-append}
use Rattle.std.proofs.lemmas.List.{map-append}
use Rattle.rx_run.specs.Lines.{lines_of, lacks}
use Rattle.rx_run.specs.Outcome.{AreReplies, IsAnswered, IsBegun, are_ok, text_of}
use Rattle.rx_run.specs.Serving.{LooksAtFronts, line_front, kept_lines, Serves, Halts, Ends}
use Rattle.rx_run.proofs.Lacking.{lacks-append, lacks-take}
use Rattle.rx_run.proofs.Lines.{lines_of-front, lines_of-line, lines_of-last, begin_all-capped}

and_assoc : (a b c : Bool) → ((a && b) && c) ≡ (a && (b && c))
and_assoc true b c = refl
and_assoc false b c = refl

and_true : (a : Bool) → (a && true) ≡ a
and_true true = refl
and_true false = refl

pub AllZip-append : {A B : Type 0} (R : A → B → Type 0) (xs : List A) (ys : List B) (xs' : List A) (ys' : List B) → AllZip R xs ys → AllZip R xs' ys' → AllZip R (xs ++ xs') (ys ++ ys')
AllZip-append R [] [] xs' ys' h g = g
AllZip-append R (x ∷ xs) (y ∷ ys) xs' ys' h g = (h.0, AllZip-append R xs ys xs' ys' h.1 g)
AllZip-append R [] (y ∷ ys) xs' ys' h g = absurd h
AllZip-append R (x ∷ xs) [] xs' ys' h g = absurd h

lacks-kept : (line : List ℕ) → lacks 10 line ≡ true → lacks 10 (line_front line) ≡ true
unfolding line_front
lacks-kept line h = lacks-take 10 1048577 line h

kept_lines-nil : kept_lines [] ≡ []
unfolding kept_lines lines_of
kept_lines-nil = refl

kept_lines-front : (front more : List ℕ) → lacks 10 front ≡ true → kept_lines (line_front front ++ more) ≡ kept_lines (front ++ more)
unfolding kept_lines line_front
kept_lines-front front more h =
    ap (map (take 1048577)) (lines_of-front (take 1048577 front) more (lacks-take 10 1048577 front h))
    ∙ begin_all-capped 1048576 front (lines_of more)
    ∙ sym (ap (map (take 1048577)) (lines_of-front front more h))

kept_lines-line : (line more : List ℕ) → lacks 10 line ≡ true → kept_lines (line ++ 10 ∷ more) ≡ line_front line ∷ kept_lines more
unfolding kept_lines
kept_lines-line line more h = ap (map line_front) (lines_of-line line more h)

kept_lines-last : (b : ℕ) (line : List ℕ) → lacks 10 (b ∷ line) ≡ true → kept_lines (b ∷ line) ≡ line_front (b ∷ line) ∷ []
unfolding kept_lines
kept_lines-last b line h = ap (map line_front) (lines_of-last b line h)

-- ---- replies after one another

text_of-append : (first second : List (List ℕ × Bool)) → text_of (first ++ second) ≡ text_of first ++ text_of second
text_of-append first second = ap concat (map-append (λ (reply : List ℕ × Bool). reply.0) first second) ∙ concat-append (map (λ (reply : List ℕ × Bool). reply.0) first) (map (λ (reply : List ℕ × Bool). reply.0) second)

are_ok-append : (first second : List (List ℕ × Bool)) → are_ok (first ++ second) ≡ (are_ok first && are_ok second)
are_ok-append first second = list_all-append (λ (reply : List ℕ × Bool). reply.1) first second

judged_then : {o' o'' : Bool} (o : Bool) (first second : List (List ℕ × Bool)) → o' ≡ (o && are_ok first) → o'' ≡ (o' && are_ok second) → o'' ≡ (o && are_ok (first ++ second))
judged_then o first second e f =
    f ∙ ap (λ (x : Bool). x && are_ok second) e ∙ and_assoc o (are_ok first) (are_ok second) ∙ ap (λ (x : Bool). o && x) (sym (are_ok-append first second))

replies-append : (answers : List ℕ → List ℕ → Bool → Type 0) (lines lines' : List (List ℕ)) (replies replies' : List (List ℕ × Bool)) → AreReplies answers lines replies → AreReplies answers lines' replies'
    → AreReplies answers (lines ++ lines') (replies ++ replies')
replies-append answers lines lines' replies replies' h g = AllZip-append (λ (line : List ℕ) (reply : List ℕ × Bool). answers line reply.0 reply.1) lines replies lines' replies' h g

pub on_ok_both : {T E P Q R : Type 0} (r : Result T E) → OnOk r P → OnOk r Q → (P → Q → R) → OnOk r R
on_ok_both (Ok x) p q f = f p q
on_ok_both (Err e) p q f = tt

module _ {answers : List ℕ → List ℕ → Bool → Type 0} (kept : LooksAtFronts answers) where
  -- ---- what answers the lines as far as they are kept answers the lines

  answered-more : (x : List ℕ) (reply : List ℕ × Bool) (lines : List (List ℕ)) (replies : List (List ℕ × Bool)) → answers x reply.0 reply.1
      → ((front later : List (List ℕ)) × (lines ≡ front ++ later) × AreReplies answers front replies)
      → (front later : List (List ℕ)) × (x ∷ lines ≡ front ++ later) × AreReplies answers front (reply ∷ replies)
  answered-more x reply lines replies is r = (x ∷ r.0, r.1, ap (λ (y : List (List ℕ)). x ∷ y) r.2, (is, r.3))

  answered-front : (lines front later : List (List ℕ)) (replies : List (List ℕ × Bool)) → map line_front lines ≡ front ++ later → AreReplies answers front replies
      → (front' later' : List (List ℕ)) × (lines ≡ front' ++ later') × AreReplies answers front' replies
  answered-front lines [] later [] e h = ([], lines, refl, tt)
  answered-front lines [] later (reply ∷ replies) e h = absurd h
  answered-front lines (line ∷ front) later [] e h = absurd h
  answered-front [] (line ∷ front) later (reply ∷ replies) e h = cc
  answered-front (x ∷ lines) (line ∷ front) later (reply ∷ replies) e h =
      let head : line_front x ≡ line = cc in
      let tail : map line_front lines ≡ front ++ later = cc in
      let P : List ℕ → Type 0 = λ y. answers y reply.0 reply.1 in
      answered-more x reply lines replies ((kept x reply.0 reply.1).0 (subst P (sym head) h.0)) (answered-front lines front later replies tail h.1)

  answered-all : (lines : List (List ℕ)) (replies : List (List ℕ × Bool)) → AreReplies answers (map line_front lines) replies → AreReplies answers lines replies
  answered-all [] [] h = tt
  answered-all [] (reply ∷ replies) h = absurd h
  answered-all (line ∷ lines) [] h = absurd h
  answered-all (line ∷ lines) (reply ∷ replies) h = ((kept line reply.0 reply.1).0 h.0, answered-all lines replies h.1)

module _ {answers : List ℕ → List ℕ → Bool → Type 0} where
  -- ---- bytes came

  pub serves_nothing : (line : List ℕ) (ok : Bool) → Serves answers line ok [] [] line ok
  serves_nothing line ok = record {
    lines = [];
    replies = [];
    lines_are = λ more. ap (λ (x : List ℕ). kept_lines (x ++ more)) (append-nil line);
    answered = tt;
    written_is = refl;
    judged = sym (and_true ok);
  }

  -- bytes with no LF
  serves_piece : (line piece : List ℕ) (ok : Bool) → lacks 10 line ≡ true → lacks 10 piece ≡ true → Serves answers line ok piece [] (line_front (line ++ piece)) ok
  serves_piece line piece ok h g = record {
    lines = [];
    replies = [];
    lines_are = λ more. sym (kept_lines-front (line ++ piece) more (lacks-append 10 line piece h g));
    answered = tt;
    written_is = refl;
    judged = sym (and_true ok);
  }

  -- an LF after a line
  serves_line : (kept : LooksAtFronts answers) (line reply : List ℕ) (ok it : Bool) → lacks 10 line ≡ true → answers line reply it → Serves answers line ok (10 ∷ []) reply [] (ok && it)
  serves_line kept line reply ok it h is = record {
    lines = line_front line ∷ [];
    replies = (reply, it) ∷ [];
    lines_are = λ more. ap kept_lines (append_assoc line (10 ∷ []) more) ∙ kept_lines-line line more h;
    answered = ((kept line reply it).1 is, tt);
    written_is = sym (append-nil reply);
    judged = ap (λ (b : Bool). ok && b) (sym (and_true it));
  }

  -- bytes, and then more
  pub serves_then : {l l' l'' b b' w w' : List ℕ} {o o' o'' : Bool} → Serves answers l o b w l' o' → Serves answers l' o' b' w' l'' o'' → Serves answers l o (b ++ b') (w ++ w') l'' o''
  serves_then {l = l} {l' = l'} {l'' = l''} {b = b} {b' = b'} {o = o} s t = record {
    lines = s.lines ++ t.lines;
    replies = s.replies ++ t.replies;
    lines_are = λ more.
        ap kept_lines (ap (λ (x : List ℕ). x ++ more) (sym (append_assoc l b b')) ∙ append_assoc (l ++ b) b' more)
        ∙ s.lines_are (b' ++ more)
        ∙ ap (λ (x : List ℕ). s.lines ++ kept_lines x) (sym (append_assoc l' b' more))
        ∙ ap (λ (x : List (List ℕ)). s.lines ++ x) (t.lines_are more)
        ∙ sym (append_assoc s.lines t.lines (kept_lines (l'' ++ more)));
    answered = replies-append answers s.lines t.lines s.replies t.replies s.answered t.answered;
    written_is = let e = s.written_is in let e' = t.written_is in rw (e, e', text_of-append s.replies t.replies);
    judged = judged_then o s.replies t.replies s.judged t.judged;
  }

  -- a line's last piece and its LF, where the line had begun
  pub serves_end : (kept : LooksAtFronts answers) (line piece line1 reply line2 : List ℕ) (ok ok1 ok2 it : Bool) → lacks 10 line ≡ true → lacks 10 piece ≡ true
      → line1 ≡ line_front (line ++ piece) → ok1 ≡ ok → answers line1 reply it → line2 ≡ [] → ok2 ≡ (ok1 && it)
      → Serves answers line ok (piece ++ 10 ∷ []) reply line2 ok2
  serves_end kept line piece line1 reply line2 ok ok1 ok2 it h g l1 o1 is l2 o2 =
      let P : List ℕ → Type 0 = λ x. answers x reply it in
      let whole : ok2 ≡ (ok && it) = o2 ∙ ap (λ (b : Bool). b && it) o1 in
      let Q : List ℕ → Type 0 = λ x. Serves answers line ok (piece ++ 10 ∷ []) reply x ok2 in
      let R : Bool → Type 0 = λ b. Serves answers line ok (piece ++ 10 ∷ []) reply [] b in
      let both : lacks 10 (line ++ piece) ≡ true = lacks-append 10 line piece h g in
      subst Q (sym l2) (subst R (sym whole) (serves_then (serves_piece line piece ok h g)
      (serves_line kept (line_front (line ++ piece)) reply ok it (lacks-kept (line ++ piece) both) (subst P l1 is))))

  -- a whole line and its LF
  pub serves_whole : (kept : LooksAtFronts answers) (line piece reply : List ℕ) (ok ok' it : Bool) → line ≡ [] → lacks 10 piece ≡ true → answers piece reply it → ok' ≡ (ok && it)
      → Serves answers line ok (piece ++ 10 ∷ []) reply line ok'
  serves_whole kept line piece reply ok ok' it none h is e = record {
    lines = line_front piece ∷ [];
    replies = (reply, it) ∷ [];
    lines_are = λ more.
        ap (λ (x : List ℕ). kept_lines (x ++ (piece ++ 10 ∷ []) ++ more)) none ∙ ap kept_lines (append_assoc piece (10 ∷ []) more) ∙ kept_lines-line piece more h
        ∙ ap (λ (x : List ℕ). line_front piece ∷ kept_lines (x ++ more)) (sym none);
    answered = ((kept piece reply it).1 is, tt);
    written_is = sym (append-nil reply);
    judged = e ∙ ap (λ (b : Bool). ok && b) (sym (and_true it));
  }

  -- one more line of the bytes, with the replies before and after
  pub serves_lines_more : (start before end bytes done new rest piece after new' l l' l'' : List ℕ) (o o' o'' : Bool)
      → bytes ≡ done ++ rest → before ≡ start ++ new → Serves answers l o done new l' o'
      → rest ≡ piece ++ 10 ∷ after → end ≡ before ++ new' → Serves answers l' o' (piece ++ 10 ∷ []) new' l'' o''
      → (done' written : List ℕ) × (bytes ≡ done' ++ after) × (end ≡ start ++ written) × Serves answers l o done' written l'' o''
  serves_lines_more start before end bytes done new rest piece after new' l l' l'' o o' o'' e h s e' h' s' = (
    done ++ (piece ++ 10 ∷ []),
    new ++ new',
    e ∙ ap (λ (x : List ℕ). done ++ x) (e' ∙ sym (append_assoc piece (10 ∷ []) after)) ∙ sym (append_assoc done (piece ++ 10 ∷ []) after),
    h' ∙ ap (λ (x : List ℕ). x ++ new') h ∙ append_assoc start new new',
    serves_then s s',
  )

  -- the rest of the bytes, in which no line ends
  pub serves_lines_last : (start end bytes done new rest l l' l'' : List ℕ) (o o' o'' : Bool)
      → bytes ≡ done ++ rest → end ≡ start ++ new → Serves answers l o done new l' o' → lacks 10 l' ≡ true → lacks 10 rest ≡ true
      → l'' ≡ line_front (l' ++ rest) → o'' ≡ o'
      → (written : List ℕ) × (end ≡ start ++ written) × Serves answers l o bytes written l'' o''
  serves_lines_last start end bytes done new rest l l' l'' o o' o'' e h s g g' l2 o2 =
      let P : List ℕ → Type 0 = λ x. Serves answers l o x new l'' o'' in
      let Q : List ℕ → Type 0 = λ x. Serves answers l o (done ++ rest) x l'' o'' in
      let R : List ℕ → Type 0 = λ x. Serves answers l o (done ++ rest) (new ++ []) x o'' in
      let T : Bool → Type 0 = λ x. Serves answers l o (done ++ rest) (new ++ []) (line_front (l' ++ rest)) x in
      (new, h, subst P (sym e) (subst Q (append-nil new) (subst R (sym l2) (subst T (sym o2) (serves_then s (serves_piece l' rest o' g g'))))))

  -- ---- the input ended

  pub ends_nothing : (line : List ℕ) (ok : Bool) → line ≡ [] → Ends answers line ok [] ok
  ends_nothing line ok none = record {
    replies = [];
    answered = let P : List (List ℕ) → Type 0 = λ x. AreReplies answers x [] in subst P (sym (ap kept_lines none ∙ kept_lines-nil)) tt;
    written_is = refl;
    judged = sym (and_true ok);
  }

  -- with a last line
  pub ends_last : (kept : LooksAtFronts answers) (line reply : List ℕ) (ok ok' it : Bool) → lacks 10 line ≡ true → ¬ (line ≡ []) → answers line reply it → ok' ≡ (ok && it) → Ends answers line ok reply ok'
  ends_last kept [] reply ok ok' it h some is e = absurd (some refl)
  ends_last kept (b ∷ line) reply ok ok' it h some is e = record {
    replies = (reply, it) ∷ [];
    answered = let P : List (List ℕ) → Type 0 = λ x. AreReplies answers x ((reply, it) ∷ []) in subst P (sym (kept_lines-last b line h)) ((kept (b ∷ line) reply it).1 is, tt);
    written_is = sym (append-nil reply);
    judged = e ∙ ap (λ (x : Bool). ok && x) (sym (and_true it));
  }

  pub serves_ends : {l l' b w w' : List ℕ} {o o' o'' : Bool} → Serves answers l o b w l' o' → Ends answers l' o' w' o'' → Ends answers (l ++ b) o (w ++ w') o''
  serves_ends {l = l} {l' = l'} {b = b} {o = o} s t = record {
    replies = s.replies ++ t.replies;
    answered =
        let lines : kept_lines (l ++ b) ≡ s.lines ++ kept_lines l' =
        ap kept_lines (sym (append-nil (l ++ b))) ∙ s.lines_are [] ∙ ap (λ (x : List ℕ). s.lines ++ kept_lines x) (append-nil l') in
        let P : List (List ℕ) → Type 0 = λ x. AreReplies answers x (s.replies ++ t.replies) in
        subst P (sym lines) (replies-append answers s.lines (kept_lines l') s.replies t.replies s.answered t.answered);
    written_is = let e = s.written_is in let e' = t.written_is in rw (e, e', text_of-append s.replies t.replies);
    judged = judged_then o s.replies t.replies s.judged t.judged;
  }

  -- ---- the replies were not written whole

  pub halts_nothing : (line bytes : List ℕ) → Halts answers line bytes [] 0
  halts_nothing line bytes = record {
    lines = [];
    later = kept_lines (line ++ bytes);
    replies = [];
    unwritten = [];
    lines_are = refl;
    answered = tt;
    front = refl;
    missing = omega arith;
  }

  -- a front of the replies to the bytes
  pub halts_serving : {l bytes new l' : List ℕ} {o o' : Bool} (front back : List ℕ) → Serves answers l o bytes new l' o' → new ≡ front ++ back → 0 < length back → Halts answers l bytes front 1
  halts_serving {l = l} {bytes = bytes} {l' = l'} front back s h some = record {
    lines = s.lines;
    later = kept_lines l';
    replies = s.replies;
    unwritten = back;
    lines_are = ap kept_lines (sym (append-nil (l ++ bytes))) ∙ s.lines_are [] ∙ ap (λ (x : List ℕ). s.lines ++ kept_lines x) (append-nil l');
    answered = s.answered;
    front = sym s.written_is ∙ h;
    missing = some;
  }

  -- a front of the replies at the end
  pub halts_ending : {line new : List ℕ} {ok ok' : Bool} (front back : List ℕ) → Ends answers line ok new ok' → new ≡ front ++ back → 0 < length back → Halts answers line [] front 1
  halts_ending {line = line} front back s h some = record {
    lines = kept_lines line;
    later = [];
    replies = s.replies;
    unwritten = back;
    lines_are = ap kept_lines (append-nil line) ∙ sym (append-nil (kept_lines line));
    answered = s.answered;
    front = sym s.written_is ∙ h;
    missing = some;
  }

  -- bytes came and were answered, and then the replies to the rest were not written whole
  pub serves_halts : {l l' b b' w w' : List ℕ} {o o' : Bool} {least : ℕ} → Serves answers l o b w l' o' → Halts answers l' b' w' least → Halts answers l (b ++ b') (w ++ w') least
  serves_halts {l = l} {l' = l'} {b = b} {b' = b'} {w = w} {w' = w'} s t = record {
    lines = s.lines ++ t.lines;
    later = t.later;
    replies = s.replies ++ t.replies;
    unwritten = t.unwritten;
    lines_are = ap kept_lines (sym (append_assoc l b b')) ∙ s.lines_are b' ∙ ap (λ (x : List (List ℕ)). s.lines ++ x) t.lines_are
        ∙ sym (append_assoc s.lines t.lines t.later);
    answered = replies-append answers s.lines t.lines s.replies t.replies s.answered t.answered;
    front = text_of-append s.replies t.replies ∙ ap (λ (x : List ℕ). x ++ text_of t.replies) (sym s.written_is)
        ∙ ap (λ (x : List ℕ). w ++ x) t.front ∙ sym (append_assoc w w' t.unwritten);
    missing = t.missing;
  }

  -- ---- to the end of the input

  pub ends-answered : {bytes written : List ℕ} {ok : Bool} (kept : LooksAtFronts answers) → Ends answers bytes true written ok → IsAnswered answers bytes written ok
  unfolding kept_lines
  ends-answered {bytes = bytes} kept e = record {
    replies = e.replies;
    answered = answered-all kept (lines_of bytes) e.replies e.answered;
    written_is = e.written_is;
    judged = e.judged;
  }

  pub halts-begun : {bytes written : List ℕ} {least : ℕ} (kept : LooksAtFronts answers) → Halts answers [] bytes written least → IsBegun answers bytes written least
  unfolding kept_lines
  halts-begun {bytes = bytes} kept e =
      let r = answered-front kept (lines_of bytes) e.lines e.later e.replies e.lines_are e.answered in
      record {
        lines = r.0;
        later = r.1;
        replies = e.replies;
        unwritten = e.unwritten;
        lines_are = r.2;
        answered = r.3;
        front = e.front;
        missing = e.missing;
      }
