-- Laws of the numbers given for a change.
use mathlib.Core.Path.{◌≡◌, refl, ap, sym, subst, ◌∙◌}
use mathlib.Core.List.{List, [], ◌∷◌, ◌++◌, append_assoc, append-nil}
use mathlib.Core.Bool.{Bool, true, false}
use mathlib.Core.Option.{Option, none, some}
use Prim.Native.Nat.{ℕ, zero, suc, ◌+◌, ◌-◌, ◌≤◌, ◌<◌}
use native.Mathlib.Omega.{arith}
use native.Mathlib.Numerals.{add-one}
use lib.ListN.{length, set, get_or, take, length-set}
use lib.Seq.{take-suc, take-suc-set, get_or-take, get_or-set_same, get_or-set_other}
use Rattle.change_plan.specs.Change.{Change, change_stores}
use Rattle.change_plan.specs.Planning.{numbers_from, take_numbers, without_all, last_of, over_numbers, giving, refused, prepared}
use Rattle.change_plan.specs.Plan.{Among}
use Rattle.card_free.specs.NodeSet.{word_count, capacity, nodes_of, next_free}
use Rattle.card_free.proofs.NodeSetLaws.{length_nodes, next_found}
use Rattle.std.specs.Prelude.{Option as Found, Some, None}
use Rattle.laws.proofs.Cases.{impossible}
use Rattle.change_plan.proofs.Search.{Swept, swept_first, onward, never_none}

-- ---- one number after the other

-- the numbers found so far, and those that the rest finds
unfoldable pub prefixed : List ℕ → Option (List ℕ) → Option (List ℕ)
prefixed ms none = none
prefixed ms (some rest) = some (ms ++ rest)

prefixed_none : (o : Option (List ℕ)) → o ≡ prefixed [] o
unfolding prefixed
prefixed_none none = refl
prefixed_none (some rest) = refl

prefixed_more : (ms : List ℕ) (m : ℕ) (o : Option (List ℕ)) → prefixed ms (numbers_from (Some m) (λ x. o)) ≡ prefixed (ms ++ m ∷ []) o
unfolding numbers_from prefixed
prefixed_more ms m none = refl
prefixed_more ms m (some rest) = ap some (sym (append_assoc ms (m ∷ []) rest))

without_more : (ms : List ℕ) (m : ℕ) (free : List Bool) → without_all (ms ++ m ∷ []) free ≡ set (without_all ms free) m false
unfolding without_all
without_more [] m free = refl
without_more (x ∷ ms) m free = without_more ms m (set free x false)

last_more : (last : ℕ) (ms : List ℕ) (m : ℕ) → last_of last (ms ++ m ∷ []) ≡ m
unfolding last_of
last_more last [] m = refl
last_more last (x ∷ ms) m = last_more x ms m

module _ (k : ℕ) (free : List Bool) (last : ℕ) where
  take_none : next_free free last ≡ None → take_numbers (suc k) free last ≡ none
  unfolding take_numbers numbers_from
  take_none e = rw e

  -- the first number, and what the rest finds among the nodes without it
  take_rest : (m : ℕ) (fewer : List Bool) (rest : Option (List ℕ)) → next_free free last ≡ Some m → fewer ≡ set free m false → take_numbers k fewer m ≡ rest
      → take_numbers (suc k) free last ≡ numbers_from (Some m) (λ x. rest)
  unfolding take_numbers numbers_from
  take_rest m fewer rest e f g =
      ap (λ (x : Found ℕ). numbers_from x (λ a. take_numbers k (set free a false) a)) e
      ∙ ap (λ (o : Option (List ℕ)). numbers_from (Some m) (λ x. o)) (ap (λ (x : List Bool). take_numbers k x m) (sym f) ∙ g)

-- How far the search has come: no number is found and the first is 0, or it has swept the nodes from the first to the latest.
pub data Progress : List ℕ → ℕ → ℕ → List Bool → Type 0 where
  none_yet : {nodes : List ℕ} {latest i : ℕ} {free : List Bool} → i ≡ 0 → get_or nodes 0 0 ≡ 0 → Progress nodes latest i free
  some_yet : {nodes : List ℕ} {latest i : ℕ} {free : List Bool} → 0 < i → 1 ≤ get_or nodes 0 0 → get_or free (get_or nodes 0 0) false ≡ true
      → Swept free (without_all (take i nodes) free) (get_or nodes 0 0) latest → Progress nodes latest i free

-- i of k numbers are found
pub record Taking (nodes : List ℕ) (latest i k : ℕ) (free : List Bool) (last : ℕ) : Type 0 where
  pub within : i ≤ k
  pub rest : take_numbers k free last ≡ prefixed (take i nodes) (take_numbers (k - i) (without_all (take i nodes) free) latest)
  pub progress : Progress nodes latest i free

pub taking_start : (nodes : List ℕ) (last k : ℕ) (free : List Bool) → get_or nodes 0 0 ≡ 0 → Taking nodes last 0 k free last
unfolding without_all
taking_start nodes last k free z =
    record {
      within = omega arith;
      rest = ap (λ (x : ℕ). take_numbers x free last) (let z : k ≡ k - 0 = omega arith in z) ∙ prefixed_none _;
      progress = none_yet refl z;
    }

module _ (nodes : List ℕ) (latest i : ℕ) (free : List Bool) where
  -- what the search finds in the whole set is what it finds among the nodes that are left
  fewer_none : Progress nodes latest i free → next_free free latest ≡ None → next_free (without_all (take i nodes) free) latest ≡ None
  unfolding without_all
  fewer_none (none_yet z f) e = ap (λ (x : ℕ). next_free (without_all (take x nodes) free) latest) z ∙ e
  fewer_none (some_yet p o t s) e = absurd (never_none free (get_or nodes 0 0) latest o t e)

  module _ (m : ℕ) (e : next_free free latest ≡ Some m) where
    fewer_round : Progress nodes latest i free → m ≡ get_or nodes 0 0 → next_free (without_all (take i nodes) free) latest ≡ None
    fewer_round (none_yet z f) h = absurd (omega (arith, (next_found free latest m e).1))
    fewer_round (some_yet p o t s) h = (onward free (without_all (take i nodes) free) (get_or nodes 0 0) latest m o t s e).stops h

    fewer_found : Progress nodes latest i free → (m ≡ get_or nodes 0 0 → ⊥) → next_free (without_all (take i nodes) free) latest ≡ Some m
    unfolding without_all
    fewer_found (none_yet z f) h = ap (λ (x : ℕ). next_free (without_all (take x nodes) free) latest) z ∙ e
    fewer_found (some_yet p o t s) h = (onward free (without_all (take i nodes) free) (get_or nodes 0 0) latest m o t s e).finds h

    module _ (room : i < length nodes) where
      held : take (i + 1) (set nodes i m) ≡ take i nodes ++ m ∷ []
      held = ap (λ (x : ℕ). take x (set nodes i m)) (add-one i) ∙ take-suc-set nodes i m room

      fewer_more : without_all (take (i + 1) (set nodes i m)) free ≡ set (without_all (take i nodes) free) m false
      fewer_more = ap (λ (l : List ℕ). without_all l free) held ∙ without_more (take i nodes) m free

      progress_more : Progress nodes latest i free → (m ≡ get_or nodes 0 0 → ⊥) → Progress (set nodes i m) m (i + 1) free
      unfolding without_all
      progress_more (none_yet z f) h =
          let first : get_or (set nodes i m) 0 0 ≡ m = ap (λ (x : ℕ). get_or (set nodes x m) 0 0) z ∙ get_or-set_same nodes 0 m 0 (omega arith) in
          let none : set (without_all (take i nodes) free) m false ≡ set free m false = ap (λ (x : ℕ). set (without_all (take x nodes) free) m false) z in
          let g = next_found free latest m e in
          some_yet {nodes = set nodes i m} {i = i + 1} {free = free} (omega arith) (omega (arith, g.1)) (ap (λ (x : ℕ). get_or free x false) first ∙ g.0)
          (subst (λ (l : List Bool). Swept free l (get_or (set nodes i m) 0 0) m) (sym (fewer_more ∙ none))
          (subst (λ (x : ℕ). Swept free (set free m false) x m) (sym first) (swept_first free m)))
      progress_more (some_yet p o t s) h =
          let first : get_or (set nodes i m) 0 0 ≡ get_or nodes 0 0 = get_or-set_other nodes i 0 m 0 (λ w. absurd (omega arith)) in
          some_yet {nodes = set nodes i m} {i = i + 1} {free = free} (omega arith) (omega (arith, o)) (ap (λ (x : ℕ). get_or free x false) first ∙ t)
          (subst (λ (l : List Bool). Swept free l (get_or (set nodes i m) 0 0) m) (sym fewer_more)
          (subst (λ (x : ℕ). Swept free (set (without_all (take i nodes) free) m false) x m) (sym first)
          ((onward free (without_all (take i nodes) free) (get_or nodes 0 0) latest m o t s e).sweeps h)))

module _ (nodes : List ℕ) (latest i k : ℕ) (free : List Bool) (last : ℕ) (t : Taking nodes latest i k free last) where
  left : i < k → take_numbers k free last ≡ prefixed (take i nodes) (take_numbers (suc (k - (i + 1))) (without_all (take i nodes) free) latest)
  left h =
      t.rest
      ∙ ap (λ (x : ℕ). prefixed (take i nodes) (take_numbers x (without_all (take i nodes) free) latest)) (let z : k - i ≡ suc (k - (i + 1)) = omega arith in z)

  -- one more
  pub taking_more : (m : ℕ) → length nodes ≡ 3 → k ≤ 3 → i < k → next_free free latest ≡ Some m → (m ≡ get_or nodes 0 0 → ⊥)
      → Taking (set nodes i m) m (i + 1) k free last
  taking_more m len few h e other =
      let room : i < length nodes = omega arith in
      record {
        within = omega arith;
        rest =
            left h
            ∙ ap (prefixed (take i nodes))
            (take_rest (k - (i + 1)) (without_all (take i nodes) free) latest m (without_all (take (i + 1) (set nodes i m)) free) _
            (fewer_found nodes latest i free m e t.progress other) (fewer_more nodes latest i free m e room) refl)
            ∙ prefixed_more (take i nodes) m (take_numbers (k - (i + 1)) (without_all (take (i + 1) (set nodes i m)) free) m)
            ∙ ap (λ (l : List ℕ). prefixed l (take_numbers (k - (i + 1)) (without_all (take (i + 1) (set nodes i m)) free) m)) (sym (held nodes latest i free m e room));
        progress = progress_more nodes latest i free m e room t.progress other;
      }

  -- no more is free
  ended : i < k → next_free (without_all (take i nodes) free) latest ≡ None → take_numbers k free last ≡ none
  unfolding prefixed
  ended h e = left h ∙ ap (prefixed (take i nodes)) (take_none (k - (i + 1)) (without_all (take i nodes) free) latest e)

  pub taking_none : i < k → next_free free latest ≡ None → take_numbers k free last ≡ none
  taking_none h e = ended h (fewer_none nodes latest i free t.progress e)

  pub taking_round : (m : ℕ) → i < k → next_free free latest ≡ Some m → m ≡ get_or nodes 0 0 → take_numbers k free last ≡ none
  taking_round m h e z = ended h (fewer_round nodes latest i free m e t.progress z)

  -- while none is looked for the first is 0
  pub first_zero : i ≤ k → k ≡ 0 → get_or nodes 0 0 ≡ 0
  first_zero h z = go t.progress
    where
      go : Progress nodes latest i free → get_or nodes 0 0 ≡ 0
      go (none_yet e f) = f
      go (some_yet p o e s) = absurd (omega arith)

  -- all are found
  pub taking_done : k ≤ i → take_numbers k free last ≡ some (take k nodes)
  unfolding take_numbers prefixed
  taking_done h =
      let same : i ≡ k = omega (arith, t.within) in
      t.rest
      ∙ ap (λ (x : ℕ). prefixed (take i nodes) (take_numbers x (without_all (take i nodes) free) latest)) (let z : k - i ≡ 0 = omega arith in z)
      ∙ ap some (append-nil (take i nodes) ∙ ap (λ (x : ℕ). take x nodes) same)

-- the numbers given are places of the set, and none is 0
number_within : (k : ℕ) (free : List Bool) (last : ℕ) (ms : List ℕ) → take_numbers k free last ≡ some ms → (i : ℕ) → i < k → (1 ≤ get_or ms i 0) × (get_or ms i 0 < length free)
unfolding take_numbers numbers_from
number_within zero free last ms e i h = absurd (omega arith)
number_within (suc k) free last ms e i h = on_next_lem (λ m rest g j l. number_within k (set free m false) m rest g j l) (next_free free last) refl e
  where
    at : (m : ℕ) (rest : List ℕ) → next_free free last ≡ Some m → ((j : ℕ) → j < k → (1 ≤ get_or rest j 0) × (get_or rest j 0 < length (set free m false)))
        → (j : ℕ) → j < suc k → (1 ≤ get_or (m ∷ rest) j 0) × (get_or (m ∷ rest) j 0 < length free)
    at m rest f ih zero l = ((next_found free last m f).1, (next_found free last m f).2)
    at m rest f ih (suc j) l = ((ih j (omega arith)).0, omega (arith, (ih j (omega arith)).1, length-set free m false))

    on_rest : (m : ℕ) → next_free free last ≡ Some m → (o : Option (List ℕ))
        → ((rest : List ℕ) → o ≡ some rest → (j : ℕ) → j < k → (1 ≤ get_or rest j 0) × (get_or rest j 0 < length (set free m false)))
        → numbers_from (Some m) (λ x. o) ≡ some ms → (1 ≤ get_or ms i 0) × (get_or ms i 0 < length free)
    on_rest m f none ih x = impossible (cc)
    on_rest m f (some rest) ih x = let q : ms ≡ m ∷ rest = cc in rw q (at m rest f (ih rest refl) i h)

    on_next_lem : ((m : ℕ) (rest : List ℕ) → take_numbers k (set free m false) m ≡ some rest → (j : ℕ) → j < k → (1 ≤ get_or rest j 0) × (get_or rest j 0 < length (set free m false)))
        → (x : Found ℕ) → next_free free last ≡ x → numbers_from x (λ m. take_numbers k (set free m false) m) ≡ some ms → (1 ≤ get_or ms i 0) × (get_or ms i 0 < length free)
    on_next_lem ih None f g = impossible (cc)
    on_next_lem ih (Some m) f g = on_rest m f (take_numbers k (set free m false) m) (ih m) g

-- ---- a change over the numbers given

pub giving_none : (k : ℕ) (free : List Bool) (last : ℕ) (change : List ℕ → Change) → take_numbers k free last ≡ none → giving k free last change ≡ refused
unfolding giving over_numbers
giving_none k free last change e = rw e

pub giving_some : (k : ℕ) (free : List Bool) (last : ℕ) (change : List ℕ → Change) (ms : List ℕ) → take_numbers k free last ≡ some ms
    → giving k free last change ≡ prepared (change_stores (change ms)) (without_all ms free) (last_of last ms) (change ms).cut
unfolding giving over_numbers
giving_some k free last change ms e = rw e

-- ---- a number given is a node's

-- a node that is found
pub found_below : (words : List ℕ) (last m : ℕ) → length words ≡ word_count → next_free (nodes_of words) last ≡ Some m → (1 ≤ m) × (m < capacity)
found_below words last m len e = let f = next_found (nodes_of words) last m e in (f.1, omega (arith, f.2, length_nodes words))

pub given_within : (words nodes : List ℕ) (k last : ℕ) → length words ≡ word_count → take_numbers k (nodes_of words) last ≡ some (take k nodes) → Among k nodes
given_within words nodes k last len e i h =
    let n = number_within k (nodes_of words) last (take k nodes) e i h in
    let same = get_or-take k nodes i 0 h in
    (omega (arith, n.0), omega (arith, n.1, length_nodes words))

-- the three of them
pub three_numbers : (l : List ℕ) → length l ≡ 3 → l ≡ get_or l 0 0 ∷ get_or l 1 0 ∷ get_or l 2 0 ∷ []
three_numbers [] e = absurd (omega arith)
three_numbers (a ∷ []) e = absurd (omega arith)
three_numbers (a ∷ b ∷ []) e = absurd (omega arith)
three_numbers (a ∷ b ∷ c ∷ []) e = refl
three_numbers (a ∷ b ∷ c ∷ d ∷ l) e = absurd (omega arith)

-- ---- nodes taken out one after the other

pub without_next : (nodes : List ℕ) (i : ℕ) (free : List Bool) → i < length nodes
    → set (without_all (take i nodes) free) (get_or nodes i 0) false ≡ without_all (take (i + 1) nodes) free
without_next nodes i free h =
    sym (without_more (take i nodes) (get_or nodes i 0) free)
    ∙ ap (λ (l : List ℕ). without_all l free) (sym (ap (λ (x : ℕ). take x nodes) (add-one i) ∙ take-suc nodes i 0 h))

-- the last of them
pub last_some : (nodes : List ℕ) (count last : ℕ) → (count ≡ 0 → ⊥) → count ≤ length nodes → get_or nodes (count - 1) 0 ≡ last_of last (take count nodes)
last_some nodes zero last z h = absurd (z refl)
last_some nodes (suc k) last z h =
    ap (λ (i : ℕ). get_or nodes i 0) (let s : suc k - 1 ≡ k = omega arith in s)
    ∙ sym (ap (last_of last) (take-suc nodes k 0 (omega arith)) ∙ last_more last (take k nodes) (get_or nodes k 0))
