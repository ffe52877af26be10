use Rattle.std.proofs.Common.{◌<◌, ◌≤◌, length, sym, arith}
use Rattle.buffer_store.proofs.GoneLemmas.{number-kept, number-missing}
use Rattle.buffer_store.proofs.history.History.numbered.Goals as goal

pub returns-then-node-len : goal.returns-then-node-len
returns-then-node-len c =
    let lt : c.args.node < length c.self.inside.branches.items = omega (arith, c.self.inside.branches.ok.0) in
    sym (number-kept _ _ _ _ c.args.node _ _ c.self.view_is lt)

pub returns : goal.returns
returns c =
    let le : length c.self.inside.branches.items ≤ c.args.node = omega (arith, c.self.inside.branches.ok.0) in
    sym (number-missing _ _ _ _ c.args.node _ _ c.self.view_is le)
