use Rattle.std.proofs.Common.{◌≡◌, [], sym, ◌∙◌, rules}
use Rattle.line_painting.proofs.RunLemmas.{pushed_run-first, pushed_run-same, pushed_run-other}
use Rattle.line_painting.proofs.atoms.push_run.Goals as goal

pub returns-in_default : goal.returns-in_default
returns-in_default c =
    let e : c.args.atoms.now.items ≡ [] = search rules in
    let f : c.pop.new.self.items ≡ [] = search rules in
    rw (pushed_run-first c.args.atoms.now.items c.pop.new.self.items c.args.face c.args.chars.now e f (sym c.is_empty.ensures ∙ c.if-is_empty.false)) c.push_alone.ensures

pub returns-then-is_same : goal.returns-then-is_same
returns-then-is_same c =
    rw (pushed_run-same c.args.atoms.now.items c.pop.new.self.items c.in-Some.last c.args.face c.args.chars.now c.in-Some.ensures.items (sym c.is_same.ensures ∙ c.if-is_same.true)) c.push_longer.ensures

pub returns : goal.returns
returns c =
    rw (pushed_run-other c.args.atoms.now.items c.pop.new.self.items c.in-Some.last c.args.face c.args.chars.now c.in-Some.ensures.items (sym c.is_same.ensures ∙ c.if-is_same.false) (sym c.is_empty.ensures ∙ c.if-is_empty.false)) c.push_both.ensures
