-- Elements of one kind that stand one after another in a text. At a place q the units w spell the element t before all that follows them, rest, where
-- `spells q t w rest` holds, and `following q t rest` is the place after it.
use Rattle.std.specs.Prelude.{◌≡◌, List, [], ◌∷◌, ◌++◌}

-- The elements lead from these units, at a place, to the rest, each spelled before all that follows it.
abbrev pub ElementRow : {Place Element TextUnit : Type 0} → (Place → Element → List TextUnit → List TextUnit → Type 0) → (Place → Element → List TextUnit → Place)
    → List Element → Place → List TextUnit → Place → List TextUnit → Type 0
ElementRow {TextUnit} spells following [] q us r rest = (q ≡ r) × (us ≡ rest)
ElementRow {TextUnit} spells following (t ∷ ts) q us r rest =
    (w : List TextUnit) × (more : List TextUnit) × (us ≡ w ++ more) × spells q t w more × ElementRow spells following ts (following q t more) more r rest

-- The elements ss are the elements ts and more, which lead from where ts end, at r and a, to where ss end, at p and b.
abbrev pub ElementsGoOn : {Place Element TextUnit : Type 0} → (Place → Element → List TextUnit → List TextUnit → Type 0) → (Place → Element → List TextUnit → Place)
    → List Element → Place → List TextUnit → List Element → Place → List TextUnit → Type 0
ElementsGoOn {Element} spells following ts r a ss p b = (more : List Element) × (ss ≡ ts ++ more) × ElementRow spells following more r a p b
