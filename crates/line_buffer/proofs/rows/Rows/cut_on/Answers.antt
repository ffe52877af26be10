use Rattle.std.proofs.Common.{◌≡◌, ◌-◌, ◌<◌, ◌≤◌, ◌++◌, [], length, take, drop, get_or, set, ap, ◌∙◌, arith}
use Rattle.line_buffer.proofs.RowLemmas.{item-front, item-back, set-front, set-back}
use Rattle.line_buffer.proofs.rows.Rows.cut_on.Goals as goal

pub returns-then-n-len : goal.returns-then-n-len
returns-then-n-len c =
    let h : c.args.n < length c.self.inside.front.items = omega (arith, c.if-n-len.true, c.len.ensures, c.self.inside.front.ok.0) in
    let old : c.index_mut-line.result.now ≡ get_or c.args.self.now c.args.n [] = item-front c.self.inside.front.items c.self.inside.back.items c.args.self.now c.args.n c.index_mut-line.result.now [] c.self.view_is h c.index_mut-line.ensures.value in
    set-front c.self.inside.front.items c.self.inside.back.items c.args.self.now c.args.n c.cut.new.self c.self.view_is h
    ∙ ap (λ y. set c.args.self.now c.args.n y) (c.cut.ensures ∙ ap (λ x. take c.args.from x ++ drop c.args.to x) old)

pub cut-requires-2-clause-inside : goal.cut-requires-2-clause-inside
cut-requires-2-clause-inside c =
    let l : length c.self.inside.front.items ≤ c.args.n = omega (arith, c.if-n-len.false, c.len.ensures, c.self.inside.front.ok.0) in
    let m : c.len-2.result - 1 - (c.args.n - c.len-3.result) ≡ length c.self.inside.back.items - 1 - (c.args.n - length c.self.inside.front.items) =
    omega (arith, c.len-2.ensures, c.len-3.ensures, c.self.inside.front.ok.0, c.self.inside.back.ok.0) in
    let old : c.index_mut-line-2.result.now ≡ get_or c.args.self.now c.args.n [] =
    item-back c.self.inside.front.items c.self.inside.back.items c.args.self.now c.args.n (c.len-2.result - 1 - (c.args.n - c.len-3.result)) c.index_mut-line-2.result.now [] c.self.view_is l c.requires.inside m c.index_mut-line-2.ensures.value in
    omega (arith, ap length old, c.requires.column)

pub returns : goal.returns
returns c =
    let l : length c.self.inside.front.items ≤ c.args.n = omega (arith, c.if-n-len.false, c.len.ensures, c.self.inside.front.ok.0) in
    let m : c.len-2.result - 1 - (c.args.n - c.len-3.result) ≡ length c.self.inside.back.items - 1 - (c.args.n - length c.self.inside.front.items) =
    omega (arith, c.len-2.ensures, c.len-3.ensures, c.self.inside.front.ok.0, c.self.inside.back.ok.0) in
    let old : c.index_mut-line-2.result.now ≡ get_or c.args.self.now c.args.n [] =
    item-back c.self.inside.front.items c.self.inside.back.items c.args.self.now c.args.n (c.len-2.result - 1 - (c.args.n - c.len-3.result)) c.index_mut-line-2.result.now [] c.self.view_is l c.requires.inside m c.index_mut-line-2.ensures.value in
    set-back c.self.inside.front.items c.self.inside.back.items c.args.self.now c.args.n (c.len-2.result - 1 - (c.args.n - c.len-3.result)) c.cut-2.new.self c.self.view_is l c.requires.inside m
    ∙ ap (λ y. set c.args.self.now c.args.n y) (c.cut-2.ensures ∙ ap (λ x. take c.args.from x ++ drop c.args.to x) old)
