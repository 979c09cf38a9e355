use Rattle.std.proofs.Common.{◌≡◌, refl, sym, ap, ◌∙◌, [], ◌∷◌, ℕ, drop, length-drop, length-take-le, arith}
use lib.ListN.{replicate}
use Rattle.state.proofs.Rows.{placed}
use Rattle.state.proofs.Blocks.{over_placed}
use Rattle.call_step.proofs.playing.clear_cut.Goals as goal

pub returns : goal.returns
returns c =
    let state = c.args.state.now in
    let zeros : c.fill.new.self ≡ replicate 3 0 =
    c.fill.ensures.after (λ y e. e) ∙ ap (λ (k : ℕ). replicate k 0) (length-take-le 3 (drop 8 state) (omega (arith, length-drop 8 state, c.requires))) in
    ap (placed 8 3 state) zeros ∙ sym (over_placed state (0 ∷ 0 ∷ 0 ∷ []) 8 3 refl)
