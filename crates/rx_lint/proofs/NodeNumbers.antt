-- The numbers of nodes in order, node by node, and the rows that are cut out of them.
use Rattle.std.proofs.Common.{◌≡◌, refl, ap, sym, ◌∙◌, subst, ℕ, suc, ◌+◌, ◌-◌, ◌<◌, ◌≤◌, arith, Some, None, List, [], ◌∷◌, ◌++◌, append-nil, append_assoc, length, length-append, length-drop, take, drop, drop-cons, get_or, add-one, map, reverse, Bor}
use Rattle.std.specs.List.{flat_map, slice_get}
use Rattle.std.specs.Option.{option_map}
use Rattle.std.proofs.lemmas.Grind.{flat_map-append}
use Rattle.std.proofs.lemmas.List.{map-append, length-map, length-reverse, reverse-append, reverse-reverse, take_at, drop_at, take-append-drop, take-map, length_push, get_or_push}
use Rattle.std.proofs.lemmas.Option.{slice_get-map, slice_get-get_or}
use Rattle.rx_ast.specs.Kinds.{Kind, children}
use Rattle.rx_ast.specs.MirrorKinds.{mirror_kind}
use Rattle.rx_ast.specs.declared.ast_kind.RegExpAstKind.{RegExpAstKind}
use Rattle.rx_lint.specs.declared.numbers.Beginning.{Beginning}
use Rattle.rx_lint.specs.Numbers.{name_numbers, node_numbers}
use Rattle.rx_lint.specs.Rows.{AreNumbered, kind_of, starts, tails, first_length, rows_of}

-- one character more
pub name_on : (cs : List ℕ) (n c : ℕ) (old one two all : List ℕ) → (n < length cs) × (c ≡ get_or cs n c) → old ++ name_numbers (drop n cs) ≡ all → one ≡ old ++ (1 ∷ []) → two ≡ one ++ (c ∷ []) → two ++ name_numbers (drop (n + 1) cs) ≡ all
name_on cs n c old one two all turn so_far first second =
    let cut : drop n cs ≡ c ∷ drop (n + 1) cs = drop-cons cs n c turn.0 ∙ ap (λ x. x ∷ drop (suc n) cs) (sym turn.1) ∙ ap (λ k. c ∷ drop k cs) (sym (add-one n)) in
    let pushed : two ≡ old ++ (1 ∷ c ∷ []) = second ∙ ap (λ xs. xs ++ (c ∷ [])) first ∙ append_assoc old (1 ∷ []) (c ∷ []) in
    ap (λ xs. xs ++ name_numbers (drop (n + 1) cs)) pushed ∙ append_assoc old (1 ∷ c ∷ []) (name_numbers (drop (n + 1) cs)) ∙ ap (λ xs. old ++ xs) (ap name_numbers (sym cut)) ∙ so_far

abbrev pub all_numbers : List Kind → List ℕ
all_numbers ks = flat_map node_numbers ks

starts_more : (at : ℕ) (ks : List Kind) (k : Kind) → starts at (ks ++ (k ∷ [])) ≡ starts at ks ++ ((at + length (all_numbers ks)) ∷ [])
starts_more at [] k = ap (λ n. n ∷ []) (omega arith)
starts_more at (j ∷ ks) k =
    let both : length (all_numbers (j ∷ ks)) ≡ length (node_numbers j) + length (all_numbers ks) = length-append (node_numbers j) (all_numbers ks) in
    let place : (at + length (node_numbers j)) + length (all_numbers ks) ≡ at + length (all_numbers (j ∷ ks)) = omega arith in
    ap (λ ns. at ∷ ns) (starts_more (at + length (node_numbers j)) ks k) ∙ ap (λ n. at ∷ (starts (at + length (node_numbers j)) ks ++ (n ∷ []))) place

pub numbered_none : {bs : List Beginning} {ns : List ℕ} → bs ≡ [] → ns ≡ [] → AreNumbered [] bs ns
numbered_none bs_is ns_is = record { nodes = ap (map kind_of) bs_is; begin = ap (map (λ (b : Beginning). b.start)) bs_is; numbers = ns_is }

-- one node more
pub numbered_more : {ks more : List Kind} {bs later : List Beginning} {ns grown : List ℕ} (node : RegExpAstKind) (at : ℕ) → more ≡ ks ++ (mirror_kind node ∷ []) → later ≡ bs ++ (record { node = node; start = at } ∷ []) → at ≡ length ns → grown ≡ ns ++ node_numbers (mirror_kind node) → AreNumbered ks bs ns → AreNumbered more later grown
numbered_more {ks} {more} {bs} {later} {ns} {grown} node at one_more begun here pushed so_far =
    let k = mirror_kind node in
    let b : Beginning = record { node = node; start = at } in
    let start : Beginning → ℕ = λ b. b.start in
    record {
      nodes = ap (map kind_of) begun ∙ map-append kind_of bs (b ∷ []) ∙ ap (λ ks. ks ++ (k ∷ [])) so_far.nodes ∙ sym one_more;
      begin = ap (map start) begun ∙ map-append start bs (b ∷ []) ∙ ap (λ ns. ns ++ (at ∷ [])) so_far.begin ∙ ap (λ n. starts 0 ks ++ (n ∷ [])) (here ∙ ap length so_far.numbers ∙ omega arith) ∙ sym (starts_more 0 ks k) ∙ ap (starts 0) (sym one_more);
      numbers = pushed ∙ ap (λ ns. ns ++ node_numbers k) so_far.numbers ∙ ap (λ ns. all_numbers ks ++ ns) (sym (append-nil (node_numbers k))) ∙ sym (flat_map-append node_numbers ks (k ∷ [])) ∙ ap all_numbers (sym one_more);
    }

-- where the numbers of a node begin
begins : (at : ℕ) (left after : List Beginning) (b : Beginning) → map (λ (b : Beginning). b.start) (left ++ (b ∷ after)) ≡ starts at (map kind_of (left ++ (b ∷ after))) → b.start ≡ at + length (all_numbers (map kind_of left))
begins at [] after b e = let first : b.start ≡ at = cc in omega arith
begins at (l ∷ left) after b e =
    let rest : map (λ (b : Beginning). b.start) (left ++ (b ∷ after)) ≡ starts (at + length (node_numbers (kind_of l))) (map kind_of (left ++ (b ∷ after))) = cc in
    let later = begins (at + length (node_numbers (kind_of l))) left after b rest in
    let both : length (all_numbers (map kind_of (l ∷ left))) ≡ length (node_numbers (kind_of l)) + length (all_numbers (map kind_of left)) = length-append (node_numbers (kind_of l)) (all_numbers (map kind_of left)) in
    omega arith

-- The last of a list is the first of the list turned round.
last_first : (zs : List (List ℕ)) (ys : List (List ℕ)) → zs ≡ reverse ys → (n : List ℕ) → slice_get zs (length zs - 1) ≡ Some n → length n ≡ first_length ys
last_first zs [] is n got = let none : None ≡ Some n = sym (ap (λ zs. slice_get zs (length zs - 1)) is) ∙ got in cc
last_first zs (y ∷ ys) is n got =
    let turned : zs ≡ reverse ys ++ (y ∷ []) = is ∙ reverse-append (y ∷ []) ys in
    let pushed = length_push (reverse ys) y in
    let at : length (reverse ys ++ (y ∷ [])) - 1 ≡ length (reverse ys) = omega arith in
    let last : slice_get (reverse ys ++ (y ∷ [])) (length (reverse ys)) ≡ Some y = slice_get-get_or (reverse ys ++ (y ∷ [])) (length (reverse ys)) y (omega arith) ∙ ap (λ n. Some n) (get_or_push (reverse ys) y y (length (reverse ys)) refl) in
    let same : Some n ≡ Some y = sym got ∙ ap (λ zs. slice_get zs (length zs - 1)) turned ∙ ap (slice_get (reverse ys ++ (y ∷ []))) at ∙ last in
    let it : n ≡ y = cc in
    ap length it

abbrev now_of : List (Bor (List ℕ)) → List (List ℕ)
now_of rows = map (λ (row : Bor (List ℕ)). row.now) rows

pub last_some : (rows : List (Bor (List ℕ))) (row : Bor (List ℕ)) → Some row ≡ slice_get rows (length rows - 1) → length row.now ≡ first_length (reverse (now_of rows))
last_some rows row got =
    last_first (now_of rows) (reverse (now_of rows)) (sym (reverse-reverse (now_of rows))) row.now
    (ap (λ n. slice_get (now_of rows) (n - 1)) (length-map rows (λ (row : Bor (List ℕ)). row.now)) ∙ slice_get-map (λ (row : Bor (List ℕ)). row.now) rows (length rows - 1) ∙ ap (option_map (λ (row : Bor (List ℕ)). row.now)) (sym got))

no_last : (rows : List (Bor (List ℕ))) → None ≡ slice_get rows (length rows - 1) → rows ≡ []
no_last [] none = refl
no_last (row ∷ rows) none =
    let some : slice_get (row ∷ rows) (length (row ∷ rows) - 1) ≡ Some (get_or (row ∷ rows) (length (row ∷ rows) - 1) row) = slice_get-get_or (row ∷ rows) (length (row ∷ rows) - 1) row (omega arith) in
    let no = none ∙ some in
    cc

pub last_none : (rows : List (Bor (List ℕ))) → None ≡ slice_get rows (length rows - 1) → 0 ≡ first_length (reverse (now_of rows))
last_none rows none = ap (λ rows. first_length (reverse (now_of rows))) (sym (no_last rows none))

-- What is kept of a list whose last items are taken away.
kept_front : (zs ys : List (List ℕ)) (c : ℕ) → zs ≡ reverse ys → take (length zs - c) zs ≡ reverse (drop c ys)
kept_front zs ys c is =
    let split : reverse ys ≡ reverse (drop c ys) ++ reverse (take c ys) = ap reverse (sym (take-append-drop c ys)) ∙ reverse-append (take c ys) (drop c ys) in
    let size : length (reverse (drop c ys)) ≡ length zs - c = length-reverse (drop c ys) ∙ length-drop c ys ∙ ap (λ n. n - c) (sym (ap length is ∙ length-reverse ys)) in
    ap (take (length zs - c)) (is ∙ split) ∙ take_at (reverse (drop c ys)) (reverse (take c ys)) (length zs - c) size

-- The rows and the tails of the nodes at the end.
pub record AreRowed (all left : List Beginning) (rows ends : List (Bor (List ℕ))) : Type 0 where
  pub after : List Beginning
  pub cut : all ≡ left ++ after
  pub rows_are : map (λ (row : Bor (List ℕ)). row.now) rows ≡ reverse (rows_of (map kind_of after))
  pub tails_are : map (λ (tail : Bor (List ℕ)). tail.now) ends ≡ reverse (tails (map kind_of after))

pub rowed_none : {all : List Beginning} {rows ends : List (Bor (List ℕ))} → rows ≡ [] → ends ≡ [] → AreRowed all all rows ends
rowed_none {all} rows_is ends_is = record { after = []; cut = sym (append-nil all); rows_are = ap now_of rows_is; tails_are = ap now_of ends_is }

-- the numbers from a node on
abbrev pub IsTail : List Beginning → Beginning → List ℕ → Type 0
IsTail after b ns = (b.start ≤ length ns) × (drop b.start ns ≡ all_numbers (map kind_of (b ∷ after)))

pub tail_is : (all before left after : List Beginning) (b : Beginning) (ns : List ℕ) → AreNumbered (map kind_of all) all ns → all ≡ before ++ after → before ≡ left ++ (b ∷ []) → IsTail after b ns
tail_is all before left after b ns numbered cut popped =
    let whole : all ≡ left ++ (b ∷ after) = cut ∙ ap (λ bs. bs ++ after) popped ∙ append_assoc left (b ∷ []) after in
    let start = begins 0 left after b (subst (λ bs. map (λ (b : Beginning). b.start) bs ≡ starts 0 (map kind_of bs)) whole numbered.begin) in
    let parts : ns ≡ all_numbers (map kind_of left) ++ all_numbers (map kind_of (b ∷ after)) =
    numbered.numbers ∙ ap (λ bs. all_numbers (map kind_of bs)) whole ∙ ap all_numbers (map-append kind_of left (b ∷ after)) ∙ flat_map-append node_numbers (map kind_of left) (map kind_of (b ∷ after)) in
    let lengths = ap length parts ∙ length-append (all_numbers (map kind_of left)) (all_numbers (map kind_of (b ∷ after))) in
    (omega arith, ap (drop b.start) parts ∙ drop_at (all_numbers (map kind_of left)) (all_numbers (map kind_of (b ∷ after))) b.start (omega arith))

-- one node more
pub rowed_more : {all before left : List Beginning} {rows later ends kept grown : List (Bor (List ℕ))} (b : Beginning) (ns : List ℕ) (tail row : Bor (List ℕ)) (c after : ℕ) →
    AreNumbered (map kind_of all) all ns → before ≡ left ++ (b ∷ []) → tail.now ≡ drop b.start ns → c ≡ length (children (kind_of b)) → kept ≡ take (length ends - c) ends → after ≡ first_length (reverse (now_of kept)) →
    row.now ≡ take (length tail.now - after) tail.now → later ≡ rows ++ (row ∷ []) → grown ≡ kept ++ (tail ∷ []) → AreRowed all before rows ends → AreRowed all left later grown
rowed_more {all} {before} {left} {rows} {later} {ends} {kept} {grown} b ns tail row c after numbered popped is_tail count keeps length_after is_row rowed grows so_far =
    let now : Bor (List ℕ) → List ℕ = λ row. row.now in
    let ks = map kind_of so_far.after in
    let k = kind_of b in
    let it = tail_is all before left so_far.after b ns numbered so_far.cut popped in
    let tail_now : tail.now ≡ all_numbers (k ∷ ks) = is_tail ∙ it.1 in
    let kept_now : now_of kept ≡ reverse (drop (length (children k)) (tails ks)) =
    ap now_of keeps ∙ sym (take-map now (length ends - c) ends) ∙ ap (λ n. take (n - c) (now_of ends)) (sym (length-map ends now)) ∙ kept_front (now_of ends) (tails ks) c so_far.tails_are ∙ ap (λ c. reverse (drop c (tails ks))) count in
    let after_is : after ≡ first_length (drop (length (children k)) (tails ks)) = length_after ∙ ap (λ zs. first_length (reverse zs)) kept_now ∙ ap first_length (reverse-reverse _) in
    let row_now : row.now ≡ take (length (all_numbers (k ∷ ks)) - first_length (drop (length (children k)) (tails ks))) (all_numbers (k ∷ ks)) =
    is_row ∙ ap (λ t. take (length t - after) t) tail_now ∙ ap (λ n. take (length (all_numbers (k ∷ ks)) - n) (all_numbers (k ∷ ks))) after_is in
    record {
      after = b ∷ so_far.after;
      cut = so_far.cut ∙ ap (λ bs. bs ++ so_far.after) popped ∙ append_assoc left (b ∷ []) so_far.after;
      rows_are = ap now_of rowed ∙ map-append now rows (row ∷ []) ∙ ap (λ rs. rs ++ (row.now ∷ [])) so_far.rows_are ∙ ap (λ r. reverse (rows_of ks) ++ (r ∷ [])) row_now ∙ sym (reverse-append (_ ∷ []) (rows_of ks));
      tails_are = ap now_of grows ∙ map-append now kept (tail ∷ []) ∙ ap (λ rs. rs ++ (tail.now ∷ [])) kept_now ∙ ap (λ r. reverse (drop (length (children k)) (tails ks)) ++ (r ∷ [])) tail_now ∙ sym (reverse-append (all_numbers (k ∷ ks) ∷ []) (drop (length (children k)) (tails ks)));
    }
