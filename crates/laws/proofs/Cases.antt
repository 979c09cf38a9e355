-- Cases on tests and orders, and laws of chains of tests that must all hold.
use mathlib.Core.Path.{◌≡◌, refl}
use mathlib.Core.Bool.{Bool, true, false, ◌&&◌}
use mathlib.Core.Option.{Option, none, some}
use Prim.Native.Nat.{ℕ, ◌≤◌, ◌<◌}
use native.Mathlib.Omega.{arith}
use lib.Dec.{ltb}
use borrow.Author.Tests.{ltb-true, ltb-false}
use Rattle.laws.specs.Cases.{pick, guard, bind}

-- Where two different constructors are equal, `cc` proves that 0 is 1, and anything follows: `impossible (cc)`.
pub impossible {ℓ} : {P : Type ℓ} → ◌≡◌ {A = ℕ} 0 1 → P
impossible e = absurd (omega arith)

pub bool_cases {ℓ} : {P : Type ℓ} (b : Bool) → (b ≡ true → P) → (b ≡ false → P) → P
bool_cases true f g = f refl
bool_cases false f g = g refl

pub order {ℓ} : {P : Type ℓ} (a b : ℕ) → (a < b → P) → (b ≤ a → P) → P
order a b f g = bool_cases (ltb a b) (λ e. f (ltb-true a b e)) (λ e. g (ltb-false a b e))

-- an `elim` on a test, as a call whose branches can be rewritten
pub elim_pick : {A : Type 0} (b : Bool) (x y : A) → elim b [ true ↦ x | false ↦ y ] ≡ pick b x y
elim_pick true x y = refl
elim_pick false x y = refl

pub and_true : (a b : Bool) → (a && b) ≡ true → (a ≡ true) × (b ≡ true)
and_true true b e = (refl, e)
and_true false b e = impossible (cc)

pub and_intro : {a b : Bool} → a ≡ true → b ≡ true → (a && b) ≡ true
and_intro {a} {b} p q = rw (p, q)

pub guard_some : {A : Type 0} (b : Bool) (x : Option A) (a : A) → guard b x ≡ some a → (b ≡ true) × (x ≡ some a)
guard_some true x a e = (refl, e)
guard_some false x a e = impossible (cc)

pub bind_some : {A B : Type 0} (x : Option A) (f : A → Option B) (b : B) → bind x f ≡ some b → (a : A) × (x ≡ some a) × (f a ≡ some b)
bind_some none f b e = impossible (cc)
bind_some (some a) f b e = (a, refl, e)
