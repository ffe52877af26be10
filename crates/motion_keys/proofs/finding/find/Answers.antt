use Rattle.motion_keys.specs.Motions.{offset_beside}
use Rattle.motion_keys.specs.Landmarks.{landmark}
use Rattle.window_view.specs.Views.{window_seen}
use Rattle.motion_keys.proofs.FoundLemmas.{ends-ranges, offset-found}
use Rattle.motion_keys.proofs.finding.find.Goals as goal

pub returns-in-Step : goal.returns-in-Step
returns-in-Step c = record {
  finds = rw c.in-Step.is (c.alone.ensures c.args.lines.now _ (offset-found c.args.lines.now c.args.sel c.cursor.result c.beside_place.result (λ o. offset_beside c.args.lines.now o c.in-Step.direction) c.cursor.ensures c.beside_place.ensures.gives));
}

pub returns-in-Word : goal.returns-in-Word
returns-in-Word c = record { finds = rw c.in-Word.is (c.between.ensures c.args.lines.now _ (ends-ranges c.args.lines.now _ _ c.word_between.ensures)) }

pub returns-in-Character : goal.returns-in-Character
returns-in-Character c = record { finds = rw c.in-Character.is (c.between-in-Character.ensures c.args.lines.now _ c.char_between.ensures) }

pub returns-in-To : goal.returns-in-To
returns-in-To c = record {
  finds = rw c.in-To.is (c.alone-in-To.ensures c.args.lines.now _ (offset-found c.args.lines.now c.args.sel c.cursor-in-To.result c.find_place.result (λ o. landmark c.args.lines.now o (window_seen c.args.window.now) c.in-To.place) c.cursor-in-To.ensures c.find_place.ensures.gives));
}

pub returns-in-Along : goal.returns-in-Along
returns-in-Along c = record { finds = rw c.in-Along.is (c.between-in-Along.ensures c.args.lines.now _ c.part_between.ensures) }

pub returns-in-Bracket : goal.returns-in-Bracket
returns-in-Bracket c = record { finds = rw c.in-Bracket.is (c.between-in-Bracket.ensures c.args.lines.now _ c.bracket.ensures.gives) }
