use Rattle.std.proofs.Common.{◌≡◌, ◌-◌, ◌<◌, ◌≤◌, ◌++◌, [], length, take, drop, get_or, set, ap, ◌∙◌, arith}
use Rattle.std.proofs.lemmas.Result.{on_ok_weaker}
use Rattle.line_buffer.proofs.RowLemmas.{item-front, item-back, set-front, set-back}
use Rattle.line_buffer.proofs.rows.Rows.put_on.Goals as goal

pub returns-then-n-len-clause-ok : goal.returns-then-n-len-clause-ok
returns-then-n-len-clause-ok c =
    let h : c.args.n < length c.self.inside.front.items = omega (arith, c.if-n-len.true, c.len.ensures, c.self.inside.front.ok.0) in
    let old : c.index_mut-line.result.now ≡ get_or c.args.self.now c.args.n [] = item-front c.self.inside.front.items c.self.inside.back.items c.args.self.now c.args.n c.index_mut-line.result.now [] c.self.view_is h c.index_mut-line.ensures.value in
    on_ok_weaker c.put.result
    (λ e. set-front c.self.inside.front.items c.self.inside.back.items c.args.self.now c.args.n c.put.new.self c.self.view_is h
    ∙ ap (λ y. set c.args.self.now c.args.n y) (e ∙ ap (λ x. take c.args.column x ++ (c.args.chars.now ++ drop c.args.column x)) old))
    c.put.ensures.ok

pub put-requires-2-clause-inside : goal.put-requires-2-clause-inside
put-requires-2-clause-inside c =
    let l : length c.self.inside.front.items ≤ c.args.n = omega (arith, c.if-n-len.false, c.len.ensures, c.self.inside.front.ok.0) in
    let m : c.len-2.result - 1 - (c.args.n - c.len-3.result) ≡ length c.self.inside.back.items - 1 - (c.args.n - length c.self.inside.front.items) =
    omega (arith, c.len-2.ensures, c.len-3.ensures, c.self.inside.front.ok.0, c.self.inside.back.ok.0) in
    let old : c.index_mut-line-2.result.now ≡ get_or c.args.self.now c.args.n [] =
    item-back c.self.inside.front.items c.self.inside.back.items c.args.self.now c.args.n (c.len-2.result - 1 - (c.args.n - c.len-3.result)) c.index_mut-line-2.result.now [] c.self.view_is l c.requires.inside m c.index_mut-line-2.ensures.value in
    omega (arith, ap length old, c.requires.column)

pub returns-clause-ok : goal.returns-clause-ok
returns-clause-ok c =
    let l : length c.self.inside.front.items ≤ c.args.n = omega (arith, c.if-n-len.false, c.len.ensures, c.self.inside.front.ok.0) in
    let m : c.len-2.result - 1 - (c.args.n - c.len-3.result) ≡ length c.self.inside.back.items - 1 - (c.args.n - length c.self.inside.front.items) =
    omega (arith, c.len-2.ensures, c.len-3.ensures, c.self.inside.front.ok.0, c.self.inside.back.ok.0) in
    let old : c.index_mut-line-2.result.now ≡ get_or c.args.self.now c.args.n [] =
    item-back c.self.inside.front.items c.self.inside.back.items c.args.self.now c.args.n (c.len-2.result - 1 - (c.args.n - c.len-3.result)) c.index_mut-line-2.result.now [] c.self.view_is l c.requires.inside m c.index_mut-line-2.ensures.value in
    on_ok_weaker c.put-2.result
    (λ e. set-back c.self.inside.front.items c.self.inside.back.items c.args.self.now c.args.n (c.len-2.result - 1 - (c.args.n - c.len-3.result)) c.put-2.new.self c.self.view_is l c.requires.inside m
    ∙ ap (λ y. set c.args.self.now c.args.n y) (e ∙ ap (λ x. take c.args.column x ++ (c.args.chars.now ++ drop c.args.column x)) old))
    c.put-2.ensures.ok
