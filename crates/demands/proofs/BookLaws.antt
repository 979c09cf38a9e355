-- What entering an update does to totals, and so to the map; the dictionary's answers, and which answers the book counts as final.
use mathlib.Core.Path.{◌≡◌, refl, ap, sym, ◌∙◌}
use mathlib.Core.List.{List, [], ◌∷◌}
use mathlib.Core.Option.{Option, none, some}
use mathlib.Core.Logic.{by_cases}
use Prim.Native.Nat.{ℕ, ◌+◌, ◌≤◌, ◌<◌}
use native.Mathlib.Omega.{arith}
use native.Mathlib.Decide.{ℕ_discrete}
use lib.Dec.{eqb}
use borrow.Author.Tests.{ne_eqb, eq-eqb}
use Rattle.laws.proofs.Cases.{bool_cases}
use Rattle.laws.specs.Cases.{pick}
use Rattle.laws.proofs.Totals.{indicator_same, indicator_other, indicator_zero}
use Rattle.card.specs.Layout.{key_limit}
use Rattle.laws.specs.Totals.{total}
use Rattle.demands.specs.Book.{Update, added, taken_out, entered, outcome, final, put, remove}
use Rattle.state.specs.Answers.{step_reply}
use Rattle.state.specs.Answer.{Answer}
use Rattle.state.specs.Answer.{Stored, Ready, Absent, Value, Refused}
use Rattle.theory_tree.specs.Pairs.{lookup, has_key}
use Rattle.theory_tree.proofs.Pairs.{lookup_none}

-- what the dictionary answers an update: the value held under its key, or "absent"
unfoldable pub dictionary_answer : Option ℕ → Answer
dictionary_answer none = Absent
dictionary_answer (some v) = Value v

-- the answer of a step that stored one word: it tells the place
abbrev pub IsStored : Answer → Type 0
IsStored a = (place : ℕ) × (a ≡ Stored place)

-- a step's final answers, and that the book counts them as final
abbrev pub IsFinal : Answer → Type 0
IsFinal (Stored place) = ⊥
IsFinal Ready = Unit
IsFinal Absent = Unit
IsFinal (Value v) = Unit
IsFinal (Refused r) = ⊥

pub final_told : (a : Answer) → IsFinal a → outcome (step_reply a) ≡ final
unfolding outcome step_reply
final_told (Stored place) f = absurd f
final_told Ready f = refl
final_told Absent f = refl
final_told (Value v) f = refl
final_told (Refused r) f = absurd f

-- one set of pairs
pub record Same (a b : List (ℕ × ℕ)) : Type 0 where
  pub totals : (w : ℕ × ℕ → ℕ) → total w a ≡ total w b

pub same_over : {a b c : List (ℕ × ℕ)} → Same a b → Same b c → Same a c
same_over p q = record { totals = λ w. p.totals w ∙ q.totals w }

pub same_back : {a b : List (ℕ × ℕ)} → Same a b → Same b a
same_back p = record { totals = λ w. sym (p.totals w) }

pub same_refl : (a : List (ℕ × ℕ)) → Same a a
same_refl a = record { totals = λ w. refl }

-- the pairs a become b where an update is entered into whatever list holds them
pub record Enters (u : Update) (a b : List (ℕ × ℕ)) : Type 0 where
  pub to : (l : List (ℕ × ℕ)) → Same a l → Same b (entered u l)

-- the weight w where the key is not k
abbrev off : ℕ → (ℕ × ℕ → ℕ) → ℕ × ℕ → ℕ
off k w p = pick (eqb k p.0) 0 (w p)

out_total : (w : ℕ × ℕ → ℕ) (k : ℕ) (l : List (ℕ × ℕ)) → total w (taken_out k l) ≡ total (off k w) l
unfolding taken_out
out_total w k [] = refl
out_total w k (p ∷ l) = let r = out_total w k l in bool_cases (eqb k p.0) (λ e. rw e (omega arith)) (λ e. rw e (omega arith))

off_none : (w : ℕ × ℕ → ℕ) (k : ℕ) (l : List (ℕ × ℕ)) → total (has_key k) l ≡ 0 → total (off k w) l ≡ total w l
off_none w k [] h = refl
off_none w k (p ∷ l) h = rw (ne_eqb k p.0 (λ e. indicator_zero k p.0 (omega arith) (sym e))) (omega (arith, off_none w k l (omega arith)))

lookup_held : (k : ℕ) (l : List (ℕ × ℕ)) → 0 < total (has_key k) l → (v : ℕ) × (lookup k l ≡ some v)
lookup_held k [] h = absurd (omega arith)
lookup_held k (p ∷ l) h =
    by_cases (ℕ_discrete k p.0)
    (λ e. (p.1, rw (eq-eqb k p.0 e)))
    (λ d. let r = lookup_held k l (omega (arith, indicator_other k p.0 d)) in (r.0, rw (ne_eqb k p.0 d) r.1))

entered_new : (k v : ℕ) (l : List (ℕ × ℕ)) → total (has_key k) l ≡ 0 → entered (put k v) l ≡ (k, v) ∷ l
unfolding entered added
entered_new k v l h = ap (λ (x : Option ℕ). added x k v l) (lookup_none k l h)

entered_old : (k v : ℕ) (l : List (ℕ × ℕ)) → 0 < total (has_key k) l → entered (put k v) l ≡ l
unfolding entered added
entered_old k v l h = ap (λ (x : Option ℕ). added x k v l) (lookup_held k l h).1

enters_put : (k v : ℕ) (a b : List (ℕ × ℕ)) → total (has_key k) a ≡ 0 → ((w : ℕ × ℕ → ℕ) → total w b ≡ w (k, v) + total w a) → Enters (put k v) a b
enters_put k v a b z h = record { to = λ l s. record { totals = λ w. rw (entered_new k v l (sym (s.totals (has_key k)) ∙ z)) (omega (arith, h w, s.totals w)) } }

pub enters_held : (k v : ℕ) (a : List (ℕ × ℕ)) → 0 < total (has_key k) a → Enters (put k v) a a
enters_held k v a h = record { to = λ l s. record { totals = λ w. rw (entered_old k v l (omega (arith, s.totals (has_key k)))) (s.totals w) } }

enters_remove : (k x : ℕ) (a b : List (ℕ × ℕ)) → total (has_key k) a ≤ 1 → ((w : ℕ × ℕ → ℕ) → total w a ≡ w (k, x) + total w b) → Enters (remove k) a b
unfolding entered
enters_remove k x a b o h =
    let gone : total (has_key k) b ≡ 0 = omega (arith, h (has_key k), indicator_same k) in
    record {
      to = λ l s. record {
        totals = λ w.
            let z : off k w (k, x) ≡ 0 = rw (eq-eqb k k refl) in
            omega (arith, out_total w k l, s.totals (off k w), h (off k w), off_none w k b gone);
      };
    }

pub enters_gone : (k : ℕ) (a : List (ℕ × ℕ)) → total (has_key k) a ≡ 0 → Enters (remove k) a a
unfolding entered
enters_gone k a z = record { to = λ l s. record { totals = λ w. s.totals w ∙ sym (out_total w k l ∙ off_none w k l (sym (s.totals (has_key k)) ∙ z)) } }

-- before it, the pairs may be rearranged
enters_from : {u : Update} {a a' b : List (ℕ × ℕ)} → Same a a' → Enters u a b → Enters u a' b
enters_from s e = record { to = λ l z. e.to l (same_over s z) }

-- the pairs a become b by the update's own pair, one more or one less
abbrev pub ByOne : Update → List (ℕ × ℕ) → List (ℕ × ℕ) → Type 0
ByOne (put k v) a b = (w : ℕ × ℕ → ℕ) → total w b ≡ w (k, v) + total w a
ByOne (remove k) a b = (x : ℕ) × ((w : ℕ × ℕ → ℕ) → total w a ≡ w (k, x) + total w b)

abbrev pub key_of : Update → ℕ
key_of (put k v) = k
key_of (remove k) = k

-- so the update is entered
pub record Changes (u : Update) (a b : List (ℕ × ℕ)) : Type 0 where
  pub enters : Enters u a b
  pub by_one : ByOne u a b
  pub key_small : key_of u < key_limit

pub changes_put : (k v : ℕ) (a b : List (ℕ × ℕ)) → k < key_limit → total (has_key k) a ≡ 0 → ((w : ℕ × ℕ → ℕ) → total w b ≡ w (k, v) + total w a) → Changes (put k v) a b
changes_put k v a b s z h = record { enters = enters_put k v a b z h; by_one = h; key_small = s }

pub changes_remove : (k x : ℕ) (a b : List (ℕ × ℕ)) → k < key_limit → total (has_key k) a ≤ 1 → ((w : ℕ × ℕ → ℕ) → total w a ≡ w (k, x) + total w b) → Changes (remove k) a b
changes_remove k x a b s o h = record { enters = enters_remove k x a b o h; by_one = (x, h); key_small = s }

pub changes_from : {u : Update} {a a' b : List (ℕ × ℕ)} → Same a a' → Changes u a b → Changes u a' b
changes_from {u} {a} {a'} {b} s e = record { enters = enters_from s e.enters; by_one = at u e.by_one; key_small = e.key_small }
  where
    at : (u : Update) → ByOne u a b → ByOne u a' b
    at (put k v) h = λ w. omega (arith, h w, s.totals w)
    at (remove k) (x, h) = (x, λ w. omega (arith, h w, s.totals w))
