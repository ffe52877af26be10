use Rattle.line_buffer.proofs.InsertLemmas.{insertion_shift}
use Rattle.line_buffer.proofs.lines.Lines.insert.Goals as goal

pub returns-clause-shift : goal.returns-clause-shift
returns-clause-shift c =
    insertion_shift c.args.self.now c.put.new.self c.args.at c.in_ok-end.end c.last_place.result c.args.chars.now c.put.ensures.valid c.requires c.in_ok-end.ensures.text c.in_ok-end.ensures.behind c.last_place.ensures.place c.last_place.ensures.last
