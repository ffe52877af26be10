use Rattle.std.proofs.Common.{◌≤◌, length, ap, arith}
use Rattle.text_model.specs.Texts.{offset}
use Rattle.text_model.proofs.PlaceLemmas.{offset-le}
use Rattle.line_buffer.proofs.EraseLemmas.{length-slice, erasure_shift}
use Rattle.line_buffer.proofs.lines.Lines.erase.Goals as goal

pub take_out-requires-clause-gone : goal.take_out-requires-clause-gone
take_out-requires-clause-gone c =
    let inside : offset c.args.self.now c.taken_to-end.result ≤ length c.args.self.now = offset-le c.args.self.now c.taken_to-end.result c.taken_to-end.ensures.place in
    omega (arith, c.len.ensures, c.in_ok-taken.taken.ok.0, ap length c.in_ok-taken.ensures, length-slice c.args.self.now (offset c.args.self.now c.args.from) (offset c.args.self.now c.taken_to-end.result) c.taken_to-end.ensures.after inside)

pub returns-clause-shift : goal.returns-clause-shift
returns-clause-shift c =
    erasure_shift c.args.self.now c.take_out.new.self c.args.from c.taken_to-end.result c.last_place.result _ c.taken_to-end.ensures.valid c.requires.from c.taken_to-end.ensures.place c.taken_to-end.ensures.after c.taken_to-end.ensures.value c.in_ok-take_out.ensures.ok c.last_place.ensures.place c.last_place.ensures.last
