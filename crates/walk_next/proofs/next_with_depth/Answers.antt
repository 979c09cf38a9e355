-- `walk_next::next_with_depth` meets its contract.
use Rattle.std.proofs.Common.{◌≡◌, ℕ, ap, ap₂, refl, sym, ◌∙◌, arith, length}
use Rattle.std.proofs.lemmas.Result.{err_from_is_err_and}
use Rattle.card.specs.Layout.{depth_limit}
use Rattle.card.specs.Header.{Sized}
use Rattle.card.proofs.HeaderLaws.{sized_any, sized_nodes}
use Rattle.card.proofs.LineLaws.{has_is}
use Rattle.card.proofs.RefusalLaws.{number_some}
use Rattle.walk.specs.Descent.{root_position, Way, way_from, leaf_of, depth_of}
use Rattle.walk_next.specs.Next.{Successor, Refused, depth_told}
use Rattle.walk_next.specs.Successor.{next_along, carried, next_depth}
use Rattle.walk_next.proofs.SuccessorLaws.{next_refused, next_no_line, next_along_lem, depth_along, next_depth_le}
use Rattle.walk_next.proofs.next_with_depth.Goals as goal

pub returns-in_err-n-clause-next : goal.returns-in_err-n-clause-next
returns-in_err-n-clause-next c =
    let p = err_from_is_err_and c.from_residual.result c.from_residual.ensures.1 in
    let r = c.in_err-n.field-0.0 in
    let due = c.in_err-n.ensures.refused in
    rw (p.1, p.2) (ap Refused due ∙ sym (next_refused _ _ _ _ (λ z. number_some r (due ∙ z))))

pub returns-in_err-n-clause-depth : goal.returns-in_err-n-clause-depth
unfolding next_depth carried
returns-in_err-n-clause-depth c =
    let p = err_from_is_err_and c.from_residual.result c.from_residual.ensures.1 in
    let r = c.in_err-n.field-0.0 in
    rw p.1 (ap (carried _) (sym (next_refused c.args.greatest c.args.line c.args.card.now c.args.after (λ z. number_some r (c.in_err-n.ensures.refused ∙ z)))))

pub returns-then-not-has_line-clause-next : goal.returns-then-not-has_line-clause-next
returns-then-not-has_line-clause-next c =
    sym (next_no_line _ _ _ _ (sym c.in_ok-n.ensures.refused) (sym c.has_line.ensures ∙ c.if-not-has_line.true))

pub returns-then-not-has_line-clause-depth : goal.returns-then-not-has_line-clause-depth
unfolding next_depth carried
returns-then-not-has_line-clause-depth c =
    ap (carried _) (sym (next_no_line c.args.greatest c.args.line c.args.card.now c.args.after (sym c.in_ok-n.ensures.refused) (sym c.has_line.ensures ∙ c.if-not-has_line.true)))

pub root_of-requires : goal.root_of-requires
root_of-requires c =
    let size : Sized c.args.greatest (length c.args.card.now) c.in_ok-n.n = c.in_ok-n.ensures.sized c.in_ok-n.n refl in
    (omega (arith, size.words), has_is _ _ (sym c.has_line.ensures ∙ c.if-not-has_line.false))

pub next_in-requires : goal.next_in-requires
next_in-requires c = sized_any (c.in_ok-n.ensures.sized c.in_ok-n.n refl)

pub returns : goal.returns
returns c =
    let card = c.args.card.now in
    let after = c.args.after in
    let root = c.root_of.ensures in
    let nodes = sym (sized_nodes _ _ _ (c.in_ok-n.ensures.sized c.in_ok-n.n refl)) in
    let found = c.next_in.ensures.next
    ∙ ap₂ (λ (n r : ℕ). next_along card n after (way_from card n after depth_limit (root_position r))) nodes root
    ∙ sym (next_along_lem _ c.args.line card after (sym c.in_ok-n.ensures.refused) (sym c.has_line.ensures ∙ c.if-not-has_line.false)) in
    let way = ap₂ (λ (n r : ℕ). way_from card n after depth_limit (root_position r)) nodes root in
    let depth : depth_told c.next_in.result ≡ next_depth c.args.greatest c.args.line card after =
    c.next_in.ensures.depth ∙ ap₂ (λ (w : Way) (x : Successor). carried (depth_of (leaf_of w)) x) way found ∙ sym (depth_along c.args.greatest c.args.line card after) in
    record { next = found; depth = depth; limit = rw depth (next_depth_le c.args.greatest c.args.line card after) }
