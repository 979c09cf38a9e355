-- The first look at a node: exactly when it is accepted, as a leaf or as an internal node, and what is learnt by it.
use mathlib.Core.Path.{◌≡◌, refl, ◌∙◌, subst}
use mathlib.Core.List.{List}
use mathlib.Core.Bool.{Bool, true, false, ◌||◌}
use Prim.Native.Nat.{ℕ, ◌≤◌, ◌<◌}
use native.Mathlib.Omega.{arith}
use lib.ListN.{length, get_or}
use lib.Dec.{ltb, eqb}
use borrow.Author.Tests.{ltb-false, le-ltb, eqb-true, eqb-false, ne_eqb, eq-eqb}
use Rattle.std.specs.Prelude.{Some}
use Rattle.card.specs.Layout.{node_at, kind_of, key_words, value_words, children, slot_pairs, leaf_pairs}
use Rattle.laws.specs.Cases.{pick}
use Rattle.laws.proofs.Cases.{impossible}
use Rattle.card_check.specs.Check.{Findings, leaf_sound, unused_zero, Look, look_of, noted, enter_leaf, inner_sound, enter_inner, enter_kind, enter_node, bad, inner, leaf as leaf_look}
use Rattle.theory_check.proofs.Found.{taken, note}
use Rattle.theory_tree.specs.Represent.{kind}
use Rattle.card_check.specs.declared.Entry.{Entry}
use Rattle.card_check.specs.declared.Entry.TheVariants.{Leaf, Inner}
use Rattle.card_check.proofs.CheckLaws.{enter_kind_leaf}

-- the looks with which the check goes on
abbrev pub Accepted : Look → Type 0
Accepted bad = ⊥
Accepted (leaf_look f) = Unit
Accepted (inner c f) = Unit

not_bad : (L : Look) → Accepted L → bad ≡ L → ⊥
not_bad bad a e = a
not_bad (leaf_look f) a e = impossible (cc)
not_bad (inner c f) a e = impossible (cc)

passes : (b : Bool) (x L : Look) → Accepted L → pick b x bad ≡ L → (b ≡ true) × (x ≡ L)
passes true x L a e = (refl, e)
passes false x L a e = absurd (not_bad L a e)

fails : (b : Bool) (x L : Look) → Accepted L → pick b bad x ≡ L → (b ≡ false) × (x ≡ L)
fails true x L a e = absurd (not_bad L a e)
fails false x L a e = (refl, e)

-- a violation is noted only where none was noted before
noted_shown : (b : Bool) (entry : Entry) (f : Findings) (key run : ℕ) (L : Look) → Accepted L → noted b entry f key run ≡ L → (b ≡ true → f.violated ≡ false) × (look_of (Some entry) (note b key run f) ≡ L)
unfolding noted
noted_shown true entry f key run L a e = let p = fails f.violated (look_of (Some entry) (note true key run f)) L a e in (λ z. p.0, p.1)
noted_shown false entry f key run L a e = (λ z. impossible (cc), e)

noted_accepts : (b : Bool) (entry : Entry) (f : Findings) (key run : ℕ) → (b ≡ true → f.violated ≡ false) → noted b entry f key run ≡ look_of (Some entry) (note b key run f)
unfolding noted
noted_accepts true entry f key run h = rw (h refl)
noted_accepts false entry f key run h = refl

-- node m is one of the free nodes, and its last word is 0
pub record Present (c : List ℕ) (n m : ℕ) (f : Findings) : Type 0 where
  pub pos : 0 < m
  pub within : m ≤ n
  pub free : get_or f.free m false ≡ true
  pub last : get_or (node_at c m) 23 0 ≡ 0

-- a leaf's words: how many pairs they hold, and whether so few are a violation
abbrev pub pairs_in : List ℕ → ℕ
pairs_in words = length (slot_pairs (key_words words) (value_words words))

abbrev pub few_pairs : Bool → List ℕ → Bool
few_pairs is_root words = pick is_root false (ltb (pairs_in words) 2)

-- when a node is accepted as a leaf, where a violation was or was not noted before
pub record LeafEntry (words : List ℕ) (low high : ℕ) (is_root violated : Bool) : Type 0 where
  pub kind_is : kind_of words ≡ 1
  pub sound : leaf_sound low high (key_words words) ≡ true
  pub filled : is_root ≡ false → 1 ≤ pairs_in words
  pub first : few_pairs is_root words ≡ true → violated ≡ false

-- how many children its words name
abbrev pub width : List ℕ → ℕ
width words = length (children words)

-- when it is accepted as an internal node
pub record InnerEntry (words : List ℕ) (tagged is_root violated : Bool) : Type 0 where
  pub kind_is : kind_of words ≡ kind tagged
  pub filled : 1 ≤ width words
  pub unused : unused_zero words (width words) ≡ true
  pub sound : inner_sound tagged is_root (width words) ≡ true
  pub first : (tagged || ltb (width words) 2) ≡ true → violated ≡ false

-- the looks that a node can give, and when
pub data Enters (c : List ℕ) (n m low high run : ℕ) (is_root : Bool) (f : Findings) : Look → Type 0 where
  as_leaf : Present c n m f → LeafEntry (node_at c m) low high is_root f.violated → Enters c n m low high run is_root f (leaf_look (note (few_pairs is_root (node_at c m)) low 0 (taken m f)))
  as_inner : (tagged : Bool) → Present c n m f → InnerEntry (node_at c m) tagged is_root f.violated
      → Enters c n m low high run is_root f (inner (width (node_at c m)) (note (tagged || ltb (width (node_at c m)) 2) low (pick tagged run 0) (taken m f)))

-- ---- what an accepted look shows

leaf_look_shown : (words : List ℕ) (low high : ℕ) (is_root : Bool) (f : Findings) (L : Look) → Accepted L → kind_of words ≡ 1 → enter_leaf words low high is_root f ≡ L
    → LeafEntry words low high is_root f.violated × (leaf_look (note (few_pairs is_root words) low 0 f) ≡ L)
unfolding enter_leaf leaf_pairs look_of
leaf_look_shown words low high true f L a k e =
    let p = passes (leaf_sound low high (key_words words)) (leaf_look f) L a e in
    (record { kind_is = k; sound = p.0; filled = λ z. impossible (cc); first = λ z. impossible (cc) }, p.1)
leaf_look_shown words low high false f L a k e =
    let p = passes (leaf_sound low high (key_words words)) (pick (eqb (pairs_in words) 0) bad (noted (ltb (pairs_in words) 2) Leaf f low 0)) L a e in
    let q = fails (eqb (pairs_in words) 0) (noted (ltb (pairs_in words) 2) Leaf f low 0) L a p.1 in
    let r = noted_shown (ltb (pairs_in words) 2) Leaf f low 0 L a q.1 in
    let h : (pairs_in words ≡ 0) → ⊥ = eqb-false (pairs_in words) 0 q.0 in
    (record { kind_is = k; sound = p.0; filled = λ z. omega arith; first = r.0 }, r.1)

inner_look_shown : (words : List ℕ) (tagged : Bool) (low run : ℕ) (is_root : Bool) (f : Findings) (L : Look) → Accepted L → kind_of words ≡ kind tagged → enter_inner words tagged low run is_root f ≡ L
    → InnerEntry words tagged is_root f.violated × (inner (width words) (note (tagged || ltb (width words) 2) low (pick tagged run 0) f) ≡ L)
unfolding enter_inner look_of
inner_look_shown words tagged low run is_root f L a k e =
    let body : Look = noted (tagged || ltb (width words) 2) (Inner (width words)) f low (pick tagged run 0) in
    let p = fails (eqb (width words) 0) (pick (unused_zero words (width words)) (pick (inner_sound tagged is_root (width words)) body bad) bad) L a e in
    let q = passes (unused_zero words (width words)) (pick (inner_sound tagged is_root (width words)) body bad) L a p.1 in
    let s = passes (inner_sound tagged is_root (width words)) body L a q.1 in
    let r = noted_shown (tagged || ltb (width words) 2) (Inner (width words)) f low (pick tagged run 0) L a s.1 in
    let h : (width words ≡ 0) → ⊥ = eqb-false (width words) 0 p.0 in
    (record { kind_is = k; filled = omega arith; unused = q.0; sound = s.0; first = r.0 }, r.1)

enters_leaf : {c : List ℕ} {n m low high run : ℕ} {is_root : Bool} {f : Findings} {L : Look} → Present c n m f
    → LeafEntry (node_at c m) low high is_root f.violated × (leaf_look (note (few_pairs is_root (node_at c m)) low 0 (taken m f)) ≡ L) → Enters c n m low high run is_root f L
enters_leaf {c} {n} {m} {low} {high} {run} {is_root} {f} {L} h p =
    subst (λ (x : Look). Enters c n m low high run is_root f x) p.1 (as_leaf h p.0)

enters_inner : {c : List ℕ} {n m low high run : ℕ} {is_root : Bool} {f : Findings} {L : Look} (tagged : Bool) → Present c n m f
    → InnerEntry (node_at c m) tagged is_root f.violated × (inner (width (node_at c m)) (note (tagged || ltb (width (node_at c m)) 2) low (pick tagged run 0) (taken m f)) ≡ L)
    → Enters c n m low high run is_root f L
enters_inner {c} {n} {m} {low} {high} {run} {is_root} {f} {L} tagged h p =
    subst (λ (x : Look). Enters c n m low high run is_root f x) p.1
    (as_inner tagged h p.0)

pub enter_shown : (c : List ℕ) (n m low high run : ℕ) (is_root : Bool) (f : Findings) (L : Look) → Accepted L → enter_node c n m low high run is_root f ≡ L → Enters c n m low high run is_root f L
unfolding enter_node enter_kind
enter_shown c n m low high run is_root f L a e =
    let words : List ℕ = node_at c m in
    let g : Findings = taken m f in
    let kinds : Look = pick (eqb (kind_of words) 1) (enter_leaf words low high is_root g) (pick (eqb (kind_of words) 2)
    (enter_inner words false low run is_root g) (pick (eqb (kind_of words) 3) (enter_inner words true low run is_root g) bad)) in
    let p = fails (eqb m 0) (pick (ltb n m) bad (pick (get_or f.free m false) (pick (eqb (get_or words 23 0) 0) kinds bad) bad)) L a e in
    let q = fails (ltb n m) (pick (get_or f.free m false) (pick (eqb (get_or words 23 0) 0) kinds bad) bad) L a p.1 in
    let r = passes (get_or f.free m false) (pick (eqb (get_or words 23 0) 0) kinds bad) L a q.1 in
    let s = passes (eqb (get_or words 23 0) 0) kinds L a r.1 in
    let z : (m ≡ 0) → ⊥ = eqb-false m 0 p.0 in
    kind_one (record { pos = omega arith; within = ltb-false n m q.0; free = r.0; last = eqb-true (get_or words 23 0) 0 s.0 }) (eqb (kind_of words) 1) refl s.1
  where
    kind_three : Present c n m f → (b : Bool) → eqb (kind_of (node_at c m)) 3 ≡ b → pick b (enter_inner (node_at c m) true low run is_root (taken m f)) bad ≡ L → Enters c n m low high run is_root f L
    kind_three h true k e = enters_inner true h (inner_look_shown (node_at c m) true low run is_root (taken m f) L a (eqb-true (kind_of (node_at c m)) 3 k) e)
    kind_three h false k e = absurd (not_bad L a e)

    kind_two : Present c n m f → (b : Bool) → eqb (kind_of (node_at c m)) 2 ≡ b
        → pick b (enter_inner (node_at c m) false low run is_root (taken m f))
        (pick (eqb (kind_of (node_at c m)) 3) (enter_inner (node_at c m) true low run is_root (taken m f)) bad) ≡ L
        → Enters c n m low high run is_root f L
    kind_two h true k e = enters_inner false h (inner_look_shown (node_at c m) false low run is_root (taken m f) L a (eqb-true (kind_of (node_at c m)) 2 k) e)
    kind_two h false k e = kind_three h (eqb (kind_of (node_at c m)) 3) refl e

    kind_one : Present c n m f → (b : Bool) → eqb (kind_of (node_at c m)) 1 ≡ b
        → pick b (enter_leaf (node_at c m) low high is_root (taken m f))
        (pick (eqb (kind_of (node_at c m)) 2) (enter_inner (node_at c m) false low run is_root (taken m f))
        (pick (eqb (kind_of (node_at c m)) 3) (enter_inner (node_at c m) true low run is_root (taken m f)) bad)) ≡ L
        → Enters c n m low high run is_root f L
    kind_one h true k e = enters_leaf h (leaf_look_shown (node_at c m) low high is_root (taken m f) L a (eqb-true (kind_of (node_at c m)) 1 k) e)
    kind_one h false k e = kind_two h (eqb (kind_of (node_at c m)) 2) refl e

-- ---- and conversely

leaf_accepted : (words : List ℕ) (low high : ℕ) (is_root : Bool) (f : Findings) → LeafEntry words low high is_root f.violated
    → enter_leaf words low high is_root f ≡ leaf_look (note (few_pairs is_root words) low 0 f)
unfolding enter_leaf leaf_pairs look_of
leaf_accepted words low high true f h = rw h.sound
leaf_accepted words low high false f h =
    let z : eqb (pairs_in words) 0 ≡ false = ne_eqb (pairs_in words) 0 (omega (arith, h.filled refl)) in
    rw (h.sound, z) (noted_accepts (ltb (pairs_in words) 2) Leaf f low 0 h.first)

inner_accepted : (words : List ℕ) (tagged : Bool) (low run : ℕ) (is_root : Bool) (f : Findings) → InnerEntry words tagged is_root f.violated
    → enter_inner words tagged low run is_root f ≡ inner (width words) (note (tagged || ltb (width words) 2) low (pick tagged run 0) f)
unfolding enter_inner look_of
inner_accepted words tagged low run is_root f h =
    let z : eqb (width words) 0 ≡ false = ne_eqb (width words) 0 (omega (arith, h.filled)) in
    rw (z, h.unused, h.sound) (noted_accepts (tagged || ltb (width words) 2) (Inner (width words)) f low (pick tagged run 0) h.first)

present_enters : (c : List ℕ) (n m low high run : ℕ) (is_root : Bool) (f : Findings) → Present c n m f
    → enter_node c n m low high run is_root f ≡ enter_kind (node_at c m) low high run is_root (taken m f)
unfolding enter_node
present_enters c n m low high run is_root f h =
    let z : eqb m 0 ≡ false = ne_eqb m 0 (omega (arith, h.pos)) in
    rw (z, le-ltb n m h.within, h.free, eq-eqb (get_or (node_at c m) 23 0) 0 h.last)

kind_inner : (words : List ℕ) (tagged : Bool) (low high run : ℕ) (is_root : Bool) (f : Findings) → kind_of words ≡ kind tagged
    → enter_kind words low high run is_root f ≡ enter_inner words tagged low run is_root f
unfolding enter_kind
kind_inner words true low high run is_root f k = rw k
kind_inner words false low high run is_root f k = rw k

pub enter_accepts : (c : List ℕ) (n m low high run : ℕ) (is_root : Bool) (f : Findings) (L : Look) → Enters c n m low high run is_root f L → enter_node c n m low high run is_root f ≡ L
enter_accepts c n m low high run is_root f L (as_leaf h e) =
    present_enters c n m low high run is_root f h ∙ enter_kind_leaf (node_at c m) low high run is_root (taken m f) e.kind_is
    ∙ leaf_accepted (node_at c m) low high is_root (taken m f) e
enter_accepts c n m low high run is_root f L (as_inner tagged h e) =
    present_enters c n m low high run is_root f h ∙ kind_inner (node_at c m) tagged low high run is_root (taken m f) e.kind_is
    ∙ inner_accepted (node_at c m) tagged low run is_root (taken m f) e
