use Rattle.std.proofs.Common.{◌≡◌, length, arith}
use Rattle.kak_files.proofs.PieceLemmas.{held-added, within-added}
use Rattle.kak_files.proofs.kept.MemFiles.add.Goals as goal

pub invariant_of-self-clause-within : goal.invariant_of-self-clause-within
invariant_of-self-clause-within c =
    let begins : c.len.result ≡ length c.args.self.now.bytes.items = omega (arith, c.len.ensures, c.args.self.now.bytes.ok.0) in
    rw c.add_piece.ensures.added (within-added _ _ _ _ _ _ begins c.add_both.ensures.added c.args.self.now.within)

pub returns-clause-added : goal.returns-clause-added
returns-clause-added c =
    let begins : c.len.result ≡ length c.args.self.now.bytes.items = omega (arith, c.len.ensures, c.args.self.now.bytes.ok.0) in
    rw c.add_piece.ensures.added (held-added _ _ _ _ _ _ begins c.add_both.ensures.added c.args.self.now.within _)
