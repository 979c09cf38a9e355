-- The search for the next free node, gone on with in the same set: what it finds is what it would find among the nodes without those
-- found before, until it has gone round and comes back to the first of them.
use mathlib.Core.Path.{◌≡◌, refl, sym, ap, ◌∙◌}
use mathlib.Core.Bool.{Bool, true, false}
use mathlib.Core.List.{List, [], ◌∷◌}
use Prim.Native.Nat.{ℕ, zero, suc, ◌+◌, ◌-◌, ◌≤◌, ◌<◌}
use native.Mathlib.Omega.{arith}
use lib.ListN.{get_or, set, drop}
use lib.Seq.{get_or-drop, get_or-set_other}
use Rattle.laws.proofs.Cases.{impossible, order}
use Rattle.card_free.specs.NodeSet.{first_true, first_from, next_free}
use Rattle.std.specs.Prelude.{Option, Some, None}
use Rattle.std.specs.Option.{option_or}
use Rattle.card_free.proofs.NodeSetLaws.{from_found, next_after, next_round}

-- whether a node is free
abbrev at : List Bool → ℕ → Bool
at bits x = get_or bits x false

-- ---- a search, by what is free before the node found

first_before : (bits : List Bool) (a m : ℕ) → first_true bits a ≡ Some m → (i : ℕ) → a + i < m → at bits i ≡ false
unfolding first_true
first_before [] a m e i h = refl
first_before (true ∷ bits) a m e i h = let s : a ≡ m = cc in absurd (omega arith)
first_before (false ∷ bits) a m e zero h = refl
first_before (false ∷ bits) a m e (suc i) h = first_before bits (suc a) m e i (omega arith)

first_none : (bits : List Bool) (a : ℕ) → first_true bits a ≡ None → (i : ℕ) → at bits i ≡ false
unfolding first_true
first_none [] a e i = refl
first_none (true ∷ bits) a e i = impossible (cc)
first_none (false ∷ bits) a e zero = refl
first_none (false ∷ bits) a e (suc i) = first_none bits (suc a) e i

module _ (bits : List Bool) (a : ℕ) where
  dropped : (x : ℕ) → a ≤ x → at bits x ≡ at (drop a bits) (x - a)
  dropped x l = ap (at bits) (let s : x ≡ a + (x - a) = omega arith in s) ∙ sym (get_or-drop a bits (x - a) false)

  from_before : (m : ℕ) → first_from bits a ≡ Some m → (x : ℕ) → a ≤ x → x < m → at bits x ≡ false
  unfolding first_from
  from_before m e x l h = dropped x l ∙ first_before (drop a bits) a m e (x - a) (omega arith)

  from_none : first_from bits a ≡ None → (x : ℕ) → a ≤ x → at bits x ≡ false
  unfolding first_from
  from_none e x l = dropped x l ∙ first_none (drop a bits) a e (x - a)

  found_is : (m : ℕ) → at bits m ≡ true → a ≤ m → ((x : ℕ) → a ≤ x → x < m → at bits x ≡ false) → first_from bits a ≡ Some m
  found_is m t l before = go (first_from bits a) refl
    where
      go : (r : Option ℕ) → first_from bits a ≡ r → r ≡ Some m
      go None e = let f = from_none e m l in impossible (cc)
      go (Some k) e =
          let g = from_found bits a k e in
          order k m (λ less. let f = before k g.1 less in let u = g.0 in impossible (cc))
          (λ not. order m k (λ more. let f = from_before k e m l more in impossible (cc)) (λ le. ap Some (let s : k ≡ m = omega arith in s)))

  none_is : ((x : ℕ) → a ≤ x → at bits x ≡ false) → first_from bits a ≡ None
  none_is h = go (first_from bits a) refl
    where
      go : (r : Option ℕ) → first_from bits a ≡ r → r ≡ None
      go None e = refl
      go (Some k) e = let g = from_found bits a k e in let f = h k g.1 in let u = g.0 in impossible (cc)

-- the two ways that a search goes
next_cases : {P : Type 0} (bits : List Bool) (l m : ℕ) → next_free bits l ≡ Some m → (first_from bits (l + 1) ≡ Some m → P)
    → (first_from bits (l + 1) ≡ None → first_from bits 1 ≡ Some m → P) → P
unfolding next_free
next_cases {P} bits l m e on around = go (first_from bits (l + 1)) refl e
  where
    go : (r : Option ℕ) → first_from bits (l + 1) ≡ r → option_or r (first_from bits 1) ≡ Some m → P
    go (Some k) f z = on (f ∙ z)
    go None f z = around f z

next_none : (bits : List Bool) (l : ℕ) → ((x : ℕ) → 1 ≤ x → at bits x ≡ false) → next_free bits l ≡ None
next_none bits l h = next_round bits l (none_is bits (l + 1) (λ x k. h x (omega arith))) ∙ none_is bits 1 h

-- ---- nodes taken out

still : (bits : List Bool) (m x : ℕ) → at bits x ≡ false → at (set bits m false) x ≡ false
still [] m x e = e
still (b ∷ bits) zero zero e = refl
still (b ∷ bits) zero (suc x) e = e
still (b ∷ bits) (suc m) zero e = e
still (b ∷ bits) (suc m) (suc x) e = still bits m x e

out : (bits : List Bool) (m x : ℕ) → x ≡ m → at (set bits m false) x ≡ false
out bits m x e = ap (at (set bits m false)) e ∙ go bits m
  where
    go : (l : List Bool) (i : ℕ) → at (set l i false) i ≡ false
    go [] i = refl
    go (b ∷ l) zero = refl
    go (b ∷ l) (suc i) = go l i

-- What a search has passed that found `first` first and `last` last, of nodes of which those found are taken out: those from the first
-- to the last, or, once it has gone round, those from the first on and those up to the last. The others are as they were.
pub record Ahead (bits fewer : List Bool) (first last : ℕ) : Type 0 where
  pub forward : first ≤ last
  pub passed : (x : ℕ) → first ≤ x → x ≤ last → at fewer x ≡ false
  pub before : (x : ℕ) → 1 ≤ x → x < first → at fewer x ≡ at bits x
  pub after : (x : ℕ) → last < x → at fewer x ≡ at bits x

pub record Around (bits fewer : List Bool) (first last : ℕ) : Type 0 where
  pub back : last < first
  pub passed_on : (x : ℕ) → first ≤ x → at fewer x ≡ false
  pub passed_anew : (x : ℕ) → 1 ≤ x → x ≤ last → at fewer x ≡ false
  pub between : (x : ℕ) → last < x → x < first → at fewer x ≡ at bits x

pub data Swept : List Bool → List Bool → ℕ → ℕ → Type 0 where
  ahead : {bits fewer : List Bool} {first last : ℕ} → Ahead bits fewer first last → Swept bits fewer first last
  around : {bits fewer : List Bool} {first last : ℕ} → Around bits fewer first last → Swept bits fewer first last

-- the first is found
pub swept_first : (bits : List Bool) (m : ℕ) → Swept bits (set bits m false) m m
swept_first bits m =
    ahead {first = m} {last = m} record {
      forward = omega arith;
      passed = λ x h k. out bits m x (omega arith);
      before = λ x h k. get_or-set_other bits m x false false (λ e. absurd (omega arith));
      after = λ x h. get_or-set_other bits m x false false (λ e. absurd (omega arith));
    }

-- what the next search finds: the first again, and then no node is left, or the next of those that are left
pub record Onward (bits fewer : List Bool) (first last m : ℕ) : Type 0 where
  pub stops : m ≡ first → next_free fewer last ≡ None
  pub finds : (m ≡ first → ⊥) → next_free fewer last ≡ Some m
  pub sweeps : (m ≡ first → ⊥) → Swept bits (set fewer m false) first m

module _ (bits fewer : List Bool) (first last m : ℕ) (one : 1 ≤ first) (free : at bits first ≡ true) where
  -- a search that starts before the first does not pass it
  not_past : (a : ℕ) → a ≤ first → first_from bits a ≡ Some m → m ≤ first
  not_past a l e = order first m (λ less. let f = from_before bits a m e first l less in impossible (cc)) (λ le. le)

  onward_ahead : Ahead bits fewer first last → next_free bits last ≡ Some m → Onward bits fewer first last m
  onward_ahead s n =
      next_cases bits last m n
      (λ e.
      let g = from_found bits (last + 1) m e in
      record {
        stops = λ z. absurd (omega (arith, g.1, s.forward));
        finds = λ z. next_after fewer last m
            (found_is fewer (last + 1) m (s.after m (omega (arith, g.1)) ∙ g.0) g.1 (λ x h k. s.after x (omega arith) ∙ from_before bits (last + 1) m e x h k));
        sweeps = λ z. ahead record {
          forward = omega (arith, g.1, s.forward);
          passed = λ x h k.
              order x m
              (λ less. still fewer m x
              (order last x (λ past. s.after x past ∙ from_before bits (last + 1) m e x (omega arith) less) (λ within. s.passed x h within)))
              (λ not. out fewer m x (omega arith));
          before = λ x h k. get_or-set_other fewer m x false false (λ w. absurd (omega (arith, g.1, s.forward))) ∙ s.before x h k;
          after = λ x h. get_or-set_other fewer m x false false (λ w. absurd (omega arith)) ∙ s.after x (omega (arith, g.1));
        };
      })
      (λ none e.
      let g = from_found bits 1 m e in
      let le = not_past 1 one e in
      let later : (x : ℕ) → last < x → at fewer x ≡ false = λ x h. s.after x h ∙ from_none bits (last + 1) none x (omega arith) in
      record {
        stops = λ z. next_none fewer last
            (λ x h. order x first (λ less. s.before x h less ∙ from_before bits 1 m e x h (omega arith))
            (λ ge. order last x (λ past. later x past) (λ within. s.passed x ge within)));
        finds = λ z.
            let less : m < first = differ z le in
            next_round fewer last (none_is fewer (last + 1) (λ x h. later x (omega arith)))
            ∙ found_is fewer 1 m (s.before m g.1 less ∙ g.0) g.1 (λ x h k. s.before x h (omega arith) ∙ from_before bits 1 m e x h k);
        sweeps = λ z.
            let less : m < first = differ z le in
            around record {
              back = less;
              passed_on = λ x h. still fewer m x (order last x (λ past. later x past) (λ within. s.passed x h within));
              passed_anew = λ x h k.
                  order x m (λ lower. still fewer m x (s.before x h (omega arith) ∙ from_before bits 1 m e x h lower)) (λ not. out fewer m x (omega arith));
              between = λ x h k. get_or-set_other fewer m x false false (λ w. absurd (omega arith)) ∙ s.before x (omega arith) k;
            };
      })
    where
      differ : (m ≡ first → ⊥) → m ≤ first → m < first
      differ z le = order m first (λ less. less) (λ ge. absurd (z (omega arith)))

  onward_around : Around bits fewer first last → next_free bits last ≡ Some m → Onward bits fewer first last m
  onward_around s n =
      next_cases bits last m n
      (λ e.
      let g = from_found bits (last + 1) m e in
      let le = not_past (last + 1) (omega (arith, s.back)) e in
      record {
        stops = λ z. next_none fewer last
            (λ x h. order last x
            (λ past. order x first (λ less. s.between x past less ∙ from_before bits (last + 1) m e x (omega arith) (omega arith)) (λ ge. s.passed_on x ge))
            (λ within. s.passed_anew x h within));
        finds = λ z.
            let less : m < first = differ z le in
            next_after fewer last m
            (found_is fewer (last + 1) m (s.between m (omega (arith, g.1)) less ∙ g.0) g.1
            (λ x h k. s.between x (omega arith) (omega arith) ∙ from_before bits (last + 1) m e x h k));
        sweeps = λ z.
            let less : m < first = differ z le in
            around record {
              back = less;
              passed_on = λ x h. still fewer m x (s.passed_on x h);
              passed_anew = λ x h k.
                  order x m
                  (λ lower. still fewer m x
                  (order last x (λ past. s.between x past (omega arith) ∙ from_before bits (last + 1) m e x (omega arith) lower) (λ within. s.passed_anew x h within)))
                  (λ not. out fewer m x (omega arith));
              between = λ x h k. get_or-set_other fewer m x false false (λ w. absurd (omega arith)) ∙ s.between x (omega (arith, g.1)) k;
            };
      })
      (λ none e. let f = from_none bits (last + 1) none first (omega (arith, s.back)) in impossible (cc))
    where
      differ : (m ≡ first → ⊥) → m ≤ first → m < first
      differ z le = order m first (λ less. less) (λ ge. absurd (z (omega arith)))

  pub onward : Swept bits fewer first last → next_free bits last ≡ Some m → Onward bits fewer first last m
  onward (ahead s) n = onward_ahead s n
  onward (around s) n = onward_around s n

-- while the first is free in the set, the search finds a node
pub never_none : (bits : List Bool) (first last : ℕ) → 1 ≤ first → at bits first ≡ true → next_free bits last ≡ None → ⊥
unfolding next_free
never_none bits first last one free e = go (first_from bits (last + 1)) refl e
  where
    go : (r : Option ℕ) → first_from bits (last + 1) ≡ r → option_or r (first_from bits 1) ≡ None → ⊥
    go (Some k) f z = impossible (cc)
    go None f z = let h = from_none bits 1 z first one in impossible (cc)
