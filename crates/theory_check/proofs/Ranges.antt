-- Two ways to say that the keys of a tree are in their ranges. Document 01 lets a routing key equal the low end of its node's
-- range, but the child before such a key would have an empty range, and every leaf below the root holds a pair: so in a sound
-- table every routing key is above that low end, as `InRange` asks. Conversely, `InRange` gives document 01's words.
use mathlib.Core.Path.{◌≡◌}
use mathlib.Core.List.{List, [], ◌∷◌}
use mathlib.Core.Bool.{true, false}
use Prim.Native.Nat.{ℕ, ◌≤◌, ◌<◌}
use native.Mathlib.Omega.{arith}
use lib.ListN.{length}
use Rattle.card.specs.Layout.{lowest_key, key_limit, slot_pairs}
use Rattle.laws.specs.Totals.{total}
use Rattle.theory_tree.specs.Pairs.{outside}
use Rattle.theory_tree.proofs.Pairs.{InRange, AllInRange}
use Rattle.theory_tree.specs.Tree.{Tree, Forest, routing, leaf, node, one, more}
use Rattle.theory_tree.specs.Violations.{Widths, AllWidths, RootOk}
use Rattle.theory_tree.specs.WellFormed.{RisingKeys, KeysWithin, SoundIn, SoundChildren, WellFormed}
use Rattle.theory_tree.proofs.Sorted.{outside_zero}

pair_between : (lo hi : ℕ) (ps : List (ℕ × ℕ)) → total (outside lo hi) ps ≡ 0 → 1 ≤ length ps → lo < hi
pair_between lo hi [] e h = absurd (omega arith)
pair_between lo hi (p ∷ ps) e h = let b = outside_zero lo hi p (omega arith) in omega (arith, b.0, b.1)

-- a sound part below the root: the same ranges, and they are not empty
mutual
  pub strict : (lo hi : ℕ) (t : Tree) → SoundIn lo hi t → Widths t → InRange lo hi t × (lo < hi)
  strict lo hi (leaf m ks vs) s w = (s, pair_between lo hi (slot_pairs ks vs) s.inside w)
  strict lo hi (node m g f) s w = stricts lo hi f s.0 w.1

  pub stricts : (lo hi : ℕ) (f : Forest) → SoundChildren lo hi f → AllWidths f → AllInRange lo hi f × (lo < hi)
  stricts lo hi (one t) s w = strict lo hi t s w
  stricts lo hi (more t k f) s w =
      let a = strict lo k t s.0 w.0 in
      let b = stricts k hi f s.1 w.1 in
      ((a.0, a.1, b.1, b.0), omega (arith, a.1, b.1))

pub root_in_range : (lo hi : ℕ) (t : Tree) → SoundIn lo hi t → RootOk t → InRange lo hi t
root_in_range lo hi (leaf m ks vs) s w = s
root_in_range lo hi (node m true f) s w = absurd w
root_in_range lo hi (node m false f) s w = (stricts lo hi f s.0 w.2).0

-- a sound table, with strict ranges
pub well_formed_in_range : {c : List ℕ} {t : Tree} → WellFormed c t → InRange lowest_key key_limit t
well_formed_in_range {c} {t} w = root_in_range lowest_key key_limit t w.sound w.widths

-- and back
within_weaken : (a lo hi : ℕ) (ks : List ℕ) → a ≤ lo → KeysWithin lo hi ks → KeysWithin a hi ks
within_weaken a lo hi [] h w = tt
within_weaken a lo hi (k ∷ ks) h w = (omega (arith, w.0), w.1, within_weaken a lo hi ks h w.2)

keys_within : (lo hi : ℕ) (f : Forest) → AllInRange lo hi f → KeysWithin lo hi (routing f)
keys_within lo hi (one t) i = tt
keys_within lo hi (more t k f) i = (omega (arith, i.1), i.2, within_weaken lo k hi (routing f) (omega (arith, i.1)) (keys_within k hi f i.3))

rising_keys : (lo hi : ℕ) (f : Forest) → AllInRange lo hi f → RisingKeys (routing f)
rising_keys lo hi (one t) i = tt
rising_keys lo hi (more t k f) i = after f i.3 (rising_keys k hi f i.3)
  where
    after : (f : Forest) → AllInRange k hi f → RisingKeys (routing f) → RisingKeys (k ∷ routing f)
    after (one t) i r = tt
    after (more t x f) i r = (i.1, r)

mutual
  pub range_sound : (lo hi : ℕ) (t : Tree) → InRange lo hi t → SoundIn lo hi t
  range_sound lo hi (leaf m ks vs) i = i
  range_sound lo hi (node m g f) i = (ranges_sound lo hi f i, rising_keys lo hi f i, keys_within lo hi f i)

  pub ranges_sound : (lo hi : ℕ) (f : Forest) → AllInRange lo hi f → SoundChildren lo hi f
  ranges_sound lo hi (one t) i = range_sound lo hi t i
  ranges_sound lo hi (more t k f) i = (range_sound lo k t i.0, ranges_sound k hi f i.3)
