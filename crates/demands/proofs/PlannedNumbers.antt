-- Document 01, "State, steps and free nodes": the nodes that the calls give a change are those that the rules name, and a change
-- over them is by a rule where its stores and the nodes that it cuts out are.
use mathlib.Core.Path.{◌≡◌, refl, sym, ap, ◌∙◌}
use mathlib.Core.Bool.{Bool, true, false}
use mathlib.Core.List.{List, [], ◌∷◌}
use mathlib.Core.Logic.{◌⊎◌, inl, inr}
use mathlib.Core.Option.{Option, none, some}
use Prim.Native.Nat.{ℕ, zero, suc, ◌+◌, ◌-◌, ◌≤◌, ◌<◌}
use native.Mathlib.Omega.{arith}
use lib.ListN.{length, get_or, set, drop}
use lib.Seq.{get_or-drop}
use Rattle.card.specs.Stores.{Store}
use Rattle.card_free.specs.NodeSet.{first_true, first_from, next_free}
use Rattle.std.specs.Prelude.{Option as Found, Some, None}
use Rattle.std.specs.Option.{option_or}
use Rattle.card_free.proofs.NodeSetLaws.{from_found, next_found}
use Rattle.laws.proofs.Cases.{order, impossible}
use Rattle.change_plan.specs.Change.{Change, change_stores}
use Rattle.change_plan.specs.Planning.{numbers_from, take_numbers, without_all, last_of, over_numbers, giving, with_all, refused, balanced, prepared}
use Rattle.demands.specs.Rules.{NextFree, Given, none_given, then_given, marked}

-- ---- the next free node

-- no place before the one that a search finds is free, and none at all where it finds nothing
first_before : (bits : List Bool) (a m : ℕ) → first_true bits a ≡ Some m → (x : ℕ) → a + x < m → get_or bits x false ≡ false
unfolding first_true
first_before [] a m e x h = refl
first_before (true ∷ bits) a m e x h = let s : a ≡ m = cc in absurd (omega arith)
first_before (false ∷ bits) a m e zero h = refl
first_before (false ∷ bits) a m e (suc x) h = first_before bits (suc a) m e x (omega arith)

first_nothing : (bits : List Bool) (a : ℕ) → first_true bits a ≡ None → (x : ℕ) → get_or bits x false ≡ false
unfolding first_true
first_nothing [] a e x = refl
first_nothing (true ∷ bits) a e x = impossible (cc)
first_nothing (false ∷ bits) a e zero = refl
first_nothing (false ∷ bits) a e (suc x) = first_nothing bits (suc a) e x

-- place x of the bits, reached from place a
from_place : (bits : List Bool) (a x : ℕ) → a ≤ x → get_or bits x false ≡ get_or (drop a bits) (x - a) false
from_place bits a x h = ap (λ (y : ℕ). get_or bits y false) (let s : x ≡ a + (x - a) = omega arith in s) ∙ sym (get_or-drop a bits (x - a) false)

from_before : (bits : List Bool) (a m : ℕ) → first_from bits a ≡ Some m → (x : ℕ) → a ≤ x → x < m → get_or bits x false ≡ false
unfolding first_from
from_before bits a m e x h l = from_place bits a x h ∙ first_before (drop a bits) a m e (x - a) (omega arith)

from_nothing : (bits : List Bool) (a : ℕ) → first_from bits a ≡ None → (x : ℕ) → a ≤ x → get_or bits x false ≡ false
unfolding first_from
from_nothing bits a e x h = from_place bits a x h ∙ first_nothing (drop a bits) a e (x - a)

-- "the next free node after the one given last, going round from N to 1"
pub next_by_rule : (free : List Bool) (last m : ℕ) → next_free free last ≡ Some m → NextFree free last m
unfolding next_free
next_by_rule free last m e = go (first_from free (last + 1)) refl e
  where
    is_free : get_or free m false ≡ true
    is_free = (next_found free last m e).0

    -- a node after the last one would have been found first
    round : first_from free (last + 1) ≡ None → m ≤ last
    round f = order last m (λ o. let a = is_free in let b = from_nothing free (last + 1) f m (omega arith) in impossible (cc)) (λ o. o)

    go : (first : Found ℕ) → first_from free (last + 1) ≡ first → option_or first (first_from free 1) ≡ Some m → NextFree free last m
    go (Some k) f g =
        let found : first_from free (last + 1) ≡ Some m = f ∙ g in
        record {
          is_node = (next_found free last m e).1;
          is_free = is_free;
          is_next = inl (omega (arith, (from_found free (last + 1) m found).1), λ x a b. from_before free (last + 1) m found x (omega arith) b);
        }
    go None f g = record { is_node = (next_found free last m e).1; is_free = is_free; is_next = inr (round f, (λ x a. from_nothing free (last + 1) f x (omega arith)), from_before free 1 m g) }

-- and no other is: a node free before it would be next
same_next : (free : List Bool) (last m k : ℕ) → NextFree free last m → NextFree free last k → m ≡ k
same_next free last m k x y = order m k (λ o. absurd (before m k x y o)) (λ o. order k m (λ o₁. absurd (before k m y x o₁)) (λ o₁. omega arith))
  where
    before : (a b : ℕ) → NextFree free last a → NextFree free last b → a < b → ⊥
    before a b x y o = go x.is_next y.is_next
      where
        never : get_or free a false ≡ false → ⊥
        never z = let t = x.is_free in impossible (cc)

        also : get_or free b false ≡ false → ⊥
        also z = let t = y.is_free in impossible (cc)

        go : ((last < a) × ((i : ℕ) → last < i → i < a → get_or free i false ≡ false))
            ⊎ ((a ≤ last) × ((i : ℕ) → last < i → get_or free i false ≡ false) × ((i : ℕ) → 1 ≤ i → i < a → get_or free i false ≡ false))
            → ((last < b) × ((i : ℕ) → last < i → i < b → get_or free i false ≡ false))
            ⊎ ((b ≤ last) × ((i : ℕ) → last < i → get_or free i false ≡ false) × ((i : ℕ) → 1 ≤ i → i < b → get_or free i false ≡ false)) → ⊥
        go (inl (p, f)) (inl (q, g)) = never (g a p o)
        go (inl (p, f)) (inr (q, g, h)) = never (g a p)
        go (inr (p, f, f₁)) (inl (q, g)) = also (f b q)
        go (inr (p, f, f₁)) (inr (q, g, h)) = never (h a x.is_node o)

pub next_only : (free : List Bool) (last m : ℕ) → NextFree free last m → next_free free last ≡ Some m
unfolding next_free
next_only free last m x = go (next_free free last) refl
  where
    none_free : (first : Found ℕ) → option_or first (first_from free 1) ≡ None → ⊥
    none_free (Some k) f = impossible (cc)
    none_free None f = let a = x.is_free in let b = from_nothing free 1 f m x.is_node in impossible (cc)

    go : (found : Found ℕ) → next_free free last ≡ found → next_free free last ≡ Some m
    go None f = absurd (none_free (first_from free (last + 1)) f)
    go (Some k) f = f ∙ ap Some (same_next free last k m (next_by_rule free last k f) x)

-- ---- so many of them

-- the first number, and the others, given without it
taken : (k : ℕ) (free : List Bool) (last : ℕ) (ms : List ℕ) → take_numbers (suc k) free last ≡ some ms
    → (m : ℕ) × (rest : List ℕ) × (ms ≡ m ∷ rest) × (next_free free last ≡ Some m) × (take_numbers k (set free m false) m ≡ some rest)
unfolding take_numbers numbers_from
taken k free last ms e = on_next_lem (next_free free last) refl e
  where
    on_rest : (m : ℕ) → next_free free last ≡ Some m → (o : Option (List ℕ)) → take_numbers k (set free m false) m ≡ o → numbers_from (Some m) (λ x. o) ≡ some ms
        → (m : ℕ) × (rest : List ℕ) × (ms ≡ m ∷ rest) × (next_free free last ≡ Some m) × (take_numbers k (set free m false) m ≡ some rest)
    on_rest m f none g h = impossible (cc)
    on_rest m f (some rest) g h = (m, rest, cc, f, g)

    on_next_lem : (x : Found ℕ) → next_free free last ≡ x → numbers_from x (λ m. take_numbers k (set free m false) m) ≡ some ms
        → (m : ℕ) × (rest : List ℕ) × (ms ≡ m ∷ rest) × (next_free free last ≡ Some m) × (take_numbers k (set free m false) m ≡ some rest)
    on_next_lem None f g = impossible (cc)
    on_next_lem (Some m) f g = on_rest m f (take_numbers k (set free m false) m) refl g

pub numbers_by_rule : (k : ℕ) (free : List Bool) (last : ℕ) (ms : List ℕ) → take_numbers k free last ≡ some ms → Given free last ms
unfolding take_numbers
numbers_by_rule zero free last ms e = let z : ms ≡ [] = cc in rw z none_given
numbers_by_rule (suc k) free last ms e =
    let t = taken k free last ms e in
    rw t.2 (then_given (next_by_rule free last t.0 t.3) (numbers_by_rule k (set free t.0 false) t.0 t.1 t.4))

-- those given are those taken
pub given_taken : {free : List Bool} {last : ℕ} {ms : List ℕ} → Given free last ms → take_numbers (length ms) free last ≡ some ms
unfolding take_numbers numbers_from
given_taken none_given = refl
given_taken {free} {last} (then_given {m = m} x g) = rw (next_only free last m x, given_taken g)

pub numbers_counted : (k : ℕ) (free : List Bool) (last : ℕ) (ms : List ℕ) → take_numbers k free last ≡ some ms → length ms ≡ k
unfolding take_numbers
numbers_counted zero free last ms e = let z : ms ≡ [] = cc in rw z
numbers_counted (suc k) free last ms e = let t = taken k free last ms e in rw t.2 (ap suc (numbers_counted k (set free t.0 false) t.0 t.1 t.4))

-- ---- the bits

pub given_marked : (ms : List ℕ) (free : List Bool) → without_all ms free ≡ marked false ms free
unfolding without_all
given_marked [] free = refl
given_marked (m ∷ ms) free = given_marked ms (set free m false)

pub cut_marked : (ms : List ℕ) (free : List Bool) → with_all ms free ≡ marked true ms free
unfolding with_all
cut_marked [] free = refl
cut_marked (m ∷ ms) free = cut_marked ms (set free m true)

-- ---- a change over the numbers given

-- What is planned is by a rule over the nodes that it is given: they are the next ones, and no longer free.
pub record ByRule (Rule : List ℕ → List ℕ → List Store → Type 0) (free : List Bool) (last : ℕ) (stores : List Store) (fewer : List Bool) (now : ℕ) (cut : List ℕ) : Type 0 where
  pub given : List ℕ
  pub rule : Rule given cut stores
  pub in_turn : Given free last given
  pub left : fewer ≡ marked false given free
  pub given_last : now ≡ last_of last given

-- what is refused is not planned, and what is balanced neither
pub not_refused : {ss : List Store} {fewer : List Bool} {now : ℕ} {cut : List ℕ} → refused ≡ prepared ss fewer now cut → ⊥
not_refused e = impossible (cc)

pub not_balanced : {ss : List Store} {fewer : List Bool} {now : ℕ} {cut : List ℕ} → balanced ≡ prepared ss fewer now cut → ⊥
not_balanced e = impossible (cc)

-- so many numbers, one by one
one_of : (P : List ℕ → Type 0) → ((a : ℕ) → P (a ∷ [])) → (ms : List ℕ) → length ms ≡ 1 → P ms
one_of P f [] e = absurd (omega arith)
one_of P f (a ∷ []) e = f a
one_of P f (a ∷ b ∷ ms) e = absurd (omega arith)

two_of : (P : List ℕ → Type 0) → ((a b : ℕ) → P (a ∷ b ∷ [])) → (ms : List ℕ) → length ms ≡ 2 → P ms
two_of P f [] e = absurd (omega arith)
two_of P f (a ∷ ms) e = one_of (λ (rest : List ℕ). P (a ∷ rest)) (f a) ms (omega arith)

three_of : (P : List ℕ → Type 0) → ((a b d : ℕ) → P (a ∷ b ∷ d ∷ [])) → (ms : List ℕ) → length ms ≡ 3 → P ms
three_of P f [] e = absurd (omega arith)
three_of P f (a ∷ ms) e = two_of (λ (rest : List ℕ). P (a ∷ rest)) (f a) ms (omega arith)

-- the change over these numbers is by the rule
abbrev pub RightOver : (List ℕ → List ℕ → List Store → Type 0) → (List ℕ → Change) → List ℕ → Type 0
RightOver Rule change ms = Rule ms (change ms).cut (change_stores (change ms))

module _ {Rule : List ℕ → List ℕ → List Store → Type 0} {free : List Bool} {last : ℕ} {stores : List Store} {fewer : List Bool} {now : ℕ} {cut : List ℕ} where
  giving_by_rule : (k : ℕ) (change : List ℕ → Change) → giving k free last change ≡ prepared stores fewer now cut
      → ((ms : List ℕ) → length ms ≡ k → RightOver Rule change ms) → ByRule Rule free last stores fewer now cut
  unfolding giving over_numbers
  giving_by_rule k change e h = go (take_numbers k free last) refl e
    where
      go : (o : Option (List ℕ)) → take_numbers k free last ≡ o → over_numbers free last change o ≡ prepared stores fewer now cut → ByRule Rule free last stores fewer now cut
      go none t p = impossible (cc)
      go (some ms) t p =
          let s : stores ≡ change_stores (change ms) = cc in
          let f : fewer ≡ without_all ms free = cc in
          let l : now ≡ last_of last ms = cc in
          let c : cut ≡ (change ms).cut = cc in
          let r = h ms (numbers_counted k free last ms t) in
          record { given = ms; rule = rw (c, s) r; in_turn = numbers_by_rule k free last ms t; left = f ∙ given_marked ms free; given_last = l }

  pub giving_one : (change : List ℕ → Change) → giving 1 free last change ≡ prepared stores fewer now cut
      → ((a : ℕ) → RightOver Rule change (a ∷ [])) → ByRule Rule free last stores fewer now cut
  giving_one change e h = giving_by_rule 1 change e (one_of (RightOver Rule change) h)

  pub giving_two : (change : List ℕ → Change) → giving 2 free last change ≡ prepared stores fewer now cut
      → ((a b : ℕ) → RightOver Rule change (a ∷ b ∷ [])) → ByRule Rule free last stores fewer now cut
  giving_two change e h = giving_by_rule 2 change e (two_of (RightOver Rule change) h)

  pub giving_three : (change : List ℕ → Change) → giving 3 free last change ≡ prepared stores fewer now cut
      → ((a b d : ℕ) → RightOver Rule change (a ∷ b ∷ d ∷ [])) → ByRule Rule free last stores fewer now cut
  giving_three change e h = giving_by_rule 3 change e (three_of (RightOver Rule change) h)

-- a change that is given no nodes and cuts none out
pub none_taken : {Rule : List ℕ → List ℕ → List Store → Type 0} {free : List Bool} {last : ℕ} {ss stores : List Store} {fewer : List Bool} {now : ℕ} {cut : List ℕ}
    → Rule [] [] ss → prepared ss free last [] ≡ prepared stores fewer now cut → ByRule Rule free last stores fewer now cut
unfolding last_of
none_taken {ss} {stores} {cut} r e =
    let s : stores ≡ ss = cc in
    let c : cut ≡ [] = cc in
    record { given = []; rule = rw (c, s) r; in_turn = none_given; left = (cc); given_last = (cc) }
