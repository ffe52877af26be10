use Rattle.std.proofs.Common.{◌≡◌, ◌-◌, ◌++◌, reverse, length, take, ap, ap₂, ◌∙◌, arith}
use Rattle.line_buffer.proofs.RowLemmas.{replaced}
use Rattle.line_buffer.proofs.rows.Rows.replace.Goals as goal

pub returns-clause-ok : goal.returns-clause-ok
returns-clause-ok c =
    let left : c.len.result - (c.args.to - c.args.from) ≡ length c.move_gap.new.back.items - (c.args.to - c.args.from) = omega (arith, c.len.ensures, c.move_gap.new.back.ok.0) in
    ap₂ (λ x y. x ++ reverse y) c.in_ok-append.ensures.items (c.truncate.ensures.items ∙ ap (λ n. take n c.move_gap.new.back.items) left)
    ∙ replaced c.args.self.now c.move_gap.new.front.items c.move_gap.new.back.items c.args.fresh.items c.args.from c.args.to (c.move_gap.ensures.same ∙ c.self.view_is) c.in_ok-move_gap.ensures.moved c.requires.ordered c.requires.inside
