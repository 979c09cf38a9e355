-- What opening refuses, exactly. Document 01, "Refusal by place": the rows 4 and 5, each with the cards that it refuses and no
-- others, where no earlier row refuses it.
use mathlib.Core.Path.{◌≡◌, refl, ap, sym, ◌∙◌}
use mathlib.Core.List.{List}
use mathlib.Core.Bool.{Bool, true, false}
use mathlib.Core.Option.{Option, none, some}
use mathlib.Core.Logic.{◌↔◌, ◌⊎◌, inl, inr}
use Prim.Native.Nat.{ℕ, ◌+◌, ◌<◌}
use native.Mathlib.Omega.{arith}
use lib.ListN.{length, get_or}
use lib.Dec.{eqb}
use borrow.Author.Tests.{lt-ltb, le-ltb, eq-eqb}
use Rattle.card.specs.Header.{header_refusal, must, Sized, Formatted}
use Rattle.card.specs.Replies.{Reply, refusal}
use Rattle.card.specs.Layout.{run_below, search_start}
use Rattle.theory_tree.specs.FreeNodes.{Exact}
use Rattle.theory_change.proofs.Exact.{exact_same}
use Rattle.theory_tree.specs.Reserve.{reserves}
use Rattle.theory_change.proofs.Reserve.{all_reserves_none, reserve_total}
use Rattle.card_free.specs.NodeSet.{count_true}
use Rattle.laws.proofs.Bits.{bit_true, bit_false}
use Rattle.laws.proofs.Cases.{bool_cases, order, impossible}
use Rattle.demands.proofs.Reopen.{card_accepted, open_sound_lem, facts_exact}
use Rattle.card_check.specs.Check.{Findings, table_check}
use Rattle.card_check.specs.Counting.{table_counted}
use Rattle.theory_check.proofs.Facts.{Facts}
use Rattle.theory_check.proofs.Soundness.{accepts_sound, sound_accepted}
use Rattle.state.specs.Answers.{start_reply}
use Rattle.state.specs.Steps.{no_beginning}
use Rattle.call_open.specs.Opening.{open_sound, open_checked, open_of}
use Rattle.state.specs.Begun.{Begun}
use Rattle.state.specs.Begun.{Idle as OpenedIdle, Started, Refused as BegunRefused}
use Rattle.theory_tree.specs.Tree.{Tree, roots, leaf, node}
use Rattle.theory_tree.specs.Violations.{RootOk, table_violations}
use Rattle.theory_tree.specs.WellFormed.{WellFormed}

-- the answer's number is a refusal's exactly when the answer is that refusal: the other answers have numbers from 64 on
says : (b : Begun) (r : ℕ) → r < 64 → (start_reply b ≡ refusal r) ↔ (b ≡ BegunRefused r)
unfolding start_reply
says OpenedIdle r h = (λ e. absurd (omega (arith, ap (λ (x : Reply). x.code) e)), λ e. impossible (cc))
says Started r h = (λ e. absurd (omega (arith, ap (λ (x : Reply). x.code) e)), λ e. impossible (cc))
says (BegunRefused k) r h = (λ e. ap BegunRefused (ap (λ (x : Reply). x.code) e), λ e. ap start_reply e)

through : {P : Type 0} (b : Begun) (r : ℕ) → r < 64 → (b ≡ BegunRefused r) ↔ P → (start_reply b ≡ refusal r) ↔ P
through b r h p = (λ e. p.0 ((says b r h).0 e), λ q. (says b r h).1 (p.1 q))

-- a refusal has one number, and is neither of the other answers
refused_same : (a b : ℕ) → ◌≡◌ {A = Begun} (BegunRefused a) (BegunRefused b) → a ≡ b
refused_same a b e = cc

started_not : {P : Type 0} (r : ℕ) → ◌≡◌ {A = Begun} Started (BegunRefused r) → P
started_not r e = impossible (cc)

idle_not : {P : Type 0} (r : ℕ) → ◌≡◌ {A = Begun} OpenedIdle (BegunRefused r) → P
idle_not r e = impossible (cc)

-- a table that the check does not accept
open_unsound : (greatest : ℕ) (c : List ℕ) (n : ℕ) → Sized greatest (length c) n → Formatted c n → table_check c n ≡ none → (open_of greatest c).begun ≡ BegunRefused 4
unfolding open_of open_checked no_beginning
open_unsound greatest c n s k e = let a = card_accepted greatest s k in rw (a.0, a.1, e)

-- a sound table is refused where the free nodes are too few, and only there
sound_few : (n last : ℕ) (totals : List ℕ) (f : Findings) → count_true f.free < 3 + f.run → (open_sound n last totals f).begun ≡ BegunRefused 5
unfolding open_sound no_beginning
sound_few n last totals f o = rw (lt-ltb (count_true f.free) (3 + f.run) o)

sound_refused : (n last : ℕ) (totals : List ℕ) (f : Findings) (r : ℕ) → (open_sound n last totals f).begun ≡ BegunRefused r → (r ≡ 5) × (count_true f.free < 3 + f.run)
unfolding open_sound no_beginning
sound_refused n last totals f r e =
    order (count_true f.free) (3 + f.run) (λ o. (sym (refused_same 5 r (rw (lt-ltb (count_true f.free) (3 + f.run) o) at e)), o))
    (λ o. bool_cases f.violated
    (λ q. started_not r (rw (le-ltb (count_true f.free) (3 + f.run) o, q) at e))
    (λ q. idle_not r (rw (le-ltb (count_true f.free) (3 + f.run) o, q) at e)))

-- the header's refusal: 2 by word 0, and past that 3 or none
must_three : (c : List ℕ) (i v next : ℕ) → (next ≡ 0) ⊎ (next ≡ 3) → (must c i v 3 next ≡ 0) ⊎ (must c i v 3 next ≡ 3)
must_three c i v next o = bool_cases (eqb (get_or c i 0) v) (λ q. rw q o) (λ q. rw q (inr refl))

pub header_three : (c : List ℕ) (n : ℕ) → get_or c 0 0 ≡ 1 → (header_refusal c n ≡ 0) ⊎ (header_refusal c n ≡ 3)
unfolding header_refusal
header_three c n e =
    rw (eq-eqb (get_or c 0 0) 1 e) (must_three c 1 n _ (must_three c 2 8 _ (must_three c 3 24 _ (must_three c 5 0 _ (must_three c 6 0 _ (must_three c 7 0 0 (inl refl)))))))

-- what the check notes is what the tree has: "the 11-child nodes without a break straight above a tagged node"
balanced_reserves : (t : Tree) → RootOk t → table_violations t ≡ 0 → reserves 0 t ≡ 0
balanced_reserves (leaf m ks vs) w z = refl
balanced_reserves (node m true f) w z = absurd w
balanced_reserves (node m false f) w z = omega (arith, all_reserves_none (run_below (length (roots f)) 0) f z)

facts_run : {c : List ℕ} {n h : ℕ} {t : Tree} {f : Findings} → RootOk t → Facts c n t h f → f.run ≡ reserves 0 t
facts_run {c} {n} {h} {t} {f} w x =
    bool_cases f.violated
    (λ q. let v = x.violation q in v.1 ∙ reserve_total t f.key w (omega (arith, x.violated, bit_true f.violated q)) v.0)
    (λ q. x.no_run q ∙ sym (balanced_reserves t w (omega (arith, x.violated, bit_false f.violated q))))

-- past the header
module _ (greatest : ℕ) (c : List ℕ) (n : ℕ) (s : Sized greatest (length c) n) (h : Formatted c n) where
  -- a well-formed table is never refused as not sound
  not_unsound : (t : Tree) → WellFormed c t → (open_of greatest c).begun ≡ BegunRefused 4 → ⊥
  not_unsound t w e = go (sound_accepted c n s.words s.most t w)
    where
      go : ((l : ℕ) × (f : Findings) × (table_check c n ≡ some (l, f)) × Facts c n t l f) → ⊥
      go (l, f, q, x) = let z = sound_refused n (search_start c) (table_counted c) f 4 (rw (open_sound_lem greatest c n l f s h q) at e) in absurd (omega (arith, z.0))

  -- "4: table not sound"
  pub refuses_unsound : (start_reply (open_of greatest c).begun ≡ refusal 4) ↔ (((t : Tree) × WellFormed c t) → ⊥)
  refuses_unsound = through (open_of greatest c).begun 4 (omega arith) (λ e p. not_unsound p.0 p.1 e, λ p. go p (table_check c n) refl)
    where
      go : (((t : Tree) × WellFormed c t) → ⊥) → (x : Option (ℕ × Findings)) → table_check c n ≡ x → (open_of greatest c).begun ≡ BegunRefused 4
      go p none q = open_unsound greatest c n s h q
      go p (some (l, f)) q = let a = accepts_sound c n s.words s.most l f q in absurd (p (a.0, a.1))

  -- "5: free nodes fewer than 3 plus the 11-child nodes without a break straight above a tagged node"
  pub refuses_few : (start_reply (open_of greatest c).begun ≡ refusal 5) ↔ ((t : Tree) × WellFormed c t × (free : List Bool) × Exact n free t × (count_true free < 3 + reserves 0 t))
  refuses_few =
      through (open_of greatest c).begun 5 (omega arith)
      (λ e. found e (table_check c n) refl, λ p. few p.0 p.1 p.2 p.3 p.4 (sound_accepted c n s.words s.most p.0 p.1))
    where
      found : (open_of greatest c).begun ≡ BegunRefused 5 → (x : Option (ℕ × Findings)) → table_check c n ≡ x
          → (t : Tree) × WellFormed c t × (free : List Bool) × Exact n free t × (count_true free < 3 + reserves 0 t)
      found e none q = let z : ◌≡◌ {A = ℕ} 4 5 = refused_same 4 5 (sym (open_unsound greatest c n s h q) ∙ e) in absurd (omega arith)
      found e (some (l, f)) q =
          let a = accepts_sound c n s.words s.most l f q in
          let z = sound_refused n (search_start c) (table_counted c) f 5 (rw (open_sound_lem greatest c n l f s h q) at e) in
          (a.0, a.1, f.free, facts_exact a.2, omega (arith, z.1, facts_run a.1.widths a.2))

      few : (t : Tree) → WellFormed c t → (free : List Bool) → Exact n free t → count_true free < 3 + reserves 0 t
          → ((l : ℕ) × (f : Findings) × (table_check c n ≡ some (l, f)) × Facts c n t l f) → (open_of greatest c).begun ≡ BegunRefused 5
      few t w free x o (l, f, q, y) =
          rw (open_sound_lem greatest c n l f s h q) (sound_few n (search_start c) (table_counted c) f
          (omega (arith, o, ap count_true (exact_same n f.free free t (facts_exact y) x), facts_run w.widths y)))
