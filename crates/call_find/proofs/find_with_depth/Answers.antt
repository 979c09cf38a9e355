-- `call_find::find_with_depth` meets its contract.
use Rattle.std.proofs.Common.{◌≡◌, ℕ, ap, ap₂, refl, sym, ◌∙◌, arith, length}
use Rattle.std.proofs.lemmas.Result.{err_from_is_err_and}
use Rattle.card.specs.Layout.{depth_limit}
use Rattle.card.specs.Header.{Sized}
use Rattle.card.proofs.HeaderLaws.{sized_nodes}
use Rattle.card.proofs.LineLaws.{has_is}
use Rattle.card.proofs.RefusalLaws.{number_some}
use Rattle.walk.specs.Descent.{root_position, way_from, leaf_of, depth_of}
use Rattle.call_find.specs.Find.{found_at, find_depth}
use Rattle.call_find.specs.Found.{Refused, depth_told}
use Rattle.call_find.proofs.FindLaws.{find_refused, find_no_line, find_no_key, find_key, depth_refused, depth_no_line, depth_no_key, depth_key, find_depth_le}
use Rattle.call_find.proofs.find_with_depth.Goals as goal

pub returns-in_err-n-clause-found : goal.returns-in_err-n-clause-found
returns-in_err-n-clause-found c =
    let p = err_from_is_err_and c.from_residual.result c.from_residual.ensures.1 in
    let r = c.in_err-n.field-0.0 in
    let due = c.in_err-n.ensures.refused in
    rw (p.1, p.2) (ap Refused due ∙ sym (find_refused _ _ _ _ (λ z. number_some r (due ∙ z))))

pub returns-in_err-n-clause-depth : goal.returns-in_err-n-clause-depth
returns-in_err-n-clause-depth c =
    let p = err_from_is_err_and c.from_residual.result c.from_residual.ensures.1 in
    let r = c.in_err-n.field-0.0 in
    rw p.1 (sym (depth_refused _ c.args.line c.args.card.now c.args.key (λ z. number_some r (c.in_err-n.ensures.refused ∙ z))))

pub returns-then-not-has_line-clause-found : goal.returns-then-not-has_line-clause-found
returns-then-not-has_line-clause-found c = sym (find_no_line _ _ _ _ (sym c.in_ok-n.ensures.refused) (sym c.has_line.ensures ∙ c.if-not-has_line.true))

pub returns-then-not-has_line-clause-depth : goal.returns-then-not-has_line-clause-depth
returns-then-not-has_line-clause-depth c =
    sym (depth_no_line _ c.args.line c.args.card.now c.args.key (sym c.in_ok-n.ensures.refused) (sym c.has_line.ensures ∙ c.if-not-has_line.true))

pub returns-then-key-eq0-clause-found : goal.returns-then-key-eq0-clause-found
returns-then-key-eq0-clause-found c =
    sym (find_no_key _ _ _ _ (sym c.in_ok-n.ensures.refused) (sym c.has_line.ensures ∙ c.if-not-has_line.false) c.if-key-eq0.true)

pub returns-then-key-eq0-clause-depth : goal.returns-then-key-eq0-clause-depth
returns-then-key-eq0-clause-depth c =
    sym (depth_no_key _ c.args.line c.args.card.now c.args.key (sym c.in_ok-n.ensures.refused) (sym c.has_line.ensures ∙ c.if-not-has_line.false) c.if-key-eq0.true)

pub root_of-requires : goal.root_of-requires
root_of-requires c =
    let size : Sized c.args.greatest (length c.args.card.now) c.in_ok-n.n = c.in_ok-n.ensures.sized c.in_ok-n.n refl in
    (omega (arith, size.words), has_is _ _ (sym c.has_line.ensures ∙ c.if-not-has_line.false))

pub returns-clause-found : goal.returns-clause-found
returns-clause-found c =
    c.found_at.ensures.found
    ∙ ap₂ (λ (n r : ℕ). found_at c.args.card.now c.args.key (leaf_of (way_from c.args.card.now n c.args.key depth_limit (root_position r))))
    (sym (sized_nodes _ _ _ (c.in_ok-n.ensures.sized c.in_ok-n.n refl))) c.root_of.ensures
    ∙ sym (find_key _ _ _ _ (sym c.in_ok-n.ensures.refused) (sym c.has_line.ensures ∙ c.if-not-has_line.false) c.if-key-eq0.false)

pub returns-clause-depth : goal.returns-clause-depth
returns-clause-depth c =
    c.found_at.ensures.depth
    ∙ ap₂ (λ (n r : ℕ). depth_of (leaf_of (way_from c.args.card.now n c.args.key depth_limit (root_position r))))
    (sym (sized_nodes _ _ _ (c.in_ok-n.ensures.sized c.in_ok-n.n refl))) c.root_of.ensures
    ∙ sym (depth_key _ c.args.line c.args.card.now c.args.key (sym c.in_ok-n.ensures.refused) (sym c.has_line.ensures ∙ c.if-not-has_line.false) c.if-key-eq0.false)

pub returns-clause-limit : goal.returns-clause-limit
returns-clause-limit c =
    let depth : depth_told c.found_at.result ≡ find_depth c.args.greatest c.args.line c.args.card.now c.args.key = c.found_at.ensures.depth
    ∙ ap₂ (λ (n r : ℕ). depth_of (leaf_of (way_from c.args.card.now n c.args.key depth_limit (root_position r))))
    (sym (sized_nodes _ _ _ (c.in_ok-n.ensures.sized c.in_ok-n.n refl))) c.root_of.ensures
    ∙ sym (depth_key _ c.args.line c.args.card.now c.args.key (sym c.in_ok-n.ensures.refused) (sym c.has_line.ensures ∙ c.if-not-has_line.false) c.if-key-eq0.false) in
    rw depth (find_depth_le c.args.greatest c.args.line c.args.card.now c.args.key)
