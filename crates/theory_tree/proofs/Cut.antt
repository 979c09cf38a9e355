-- A forest cut in two after its first n children.
use mathlib.Core.Path.{◌≡◌, refl, ap}
use Prim.Native.Nat.{ℕ, zero, suc, ◌<◌}
use native.Mathlib.Omega.{arith}
use lib.ListN.{length}
use Rattle.theory_tree.specs.Tree.{Forest, roots, one, more}
use Rattle.theory_tree.proofs.Tree.{join}

pub record Cut : Type 0 where
  pub left : Forest
  pub key : ℕ
  pub right : Forest

unfoldable pub cut : ℕ → Forest → Cut
cut n (one t) = record { left = one t; key = 0; right = one t }
cut zero (more t k f) = record { left = one t; key = k; right = f }
cut (suc zero) (more t k f) = record { left = one t; key = k; right = f }
cut (suc (suc n)) (more t k f) = let r = cut (suc n) f in record { left = more t k r.left; key = r.key; right = r.right }

pub cut_join : (n : ℕ) (f : Forest) → 0 < n → n < length (roots f) → (join (cut n f).left (cut n f).key (cut n f).right ≡ f) × (length (roots (cut n f).left) ≡ n)
unfolding cut
cut_join n (one t) h g = absurd (omega arith)
cut_join zero (more t k f) h g = absurd (omega arith)
cut_join (suc zero) (more t k f) h g = (refl, refl)
cut_join (suc (suc n)) (more t k f) h g = let r = cut_join (suc n) f (omega arith) (omega arith) in (ap (λ (x : Forest). more t k x) r.0, ap suc r.1)
