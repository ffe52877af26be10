use Rattle.std.proofs.Common.{option_map, refl, ap, ◌∙◌, subst, ℕ, List, Bor, arith}
use Rattle.session_turns.specs.Growth.{Begins}
use Rattle.session_desk.proofs.HistoryLemmas.{starts_itself}
use Rattle.session_events.specs.declared.event.Entry.{Entry}
use Rattle.json_ui.specs.Requests.{read_request}
use Rattle.session_lines.specs.Serving.{service}
use Rattle.link_lines.specs.declared.ended.Ended.TheVariants.{NoMemory}
use Rattle.link_lines.proofs.ComingLemmas.{refused-over}
use Rattle.link_lines.proofs.DrawingLemmas.{refused-draws}
use Rattle.kak_engine.specs.Steps.{given_by, crowded_by}
use Rattle.engine_desk.specs.Sitting.{DeskSeated, AtDesk}
use Rattle.session_server.specs.Rows.{opening_keys, seat_by}
use Rattle.session_server.proofs.link_serving.serve_link.Goals as goal

pub returns-in_default-clause-served : goal.returns-in_default-clause-served
returns-in_default-clause-served g c =
    refused-over (service given_by read_request (opening_keys (option_map {T = Bor (List ℕ)} {U = List ℕ} (λ name. name.now) c.args.file))) crowded_by (g.L.Link.wire c.args.link.now) NoMemory (seat_by 0 c.args.pass.number c.args.pass.seen c.args.pass.mark) (omega arith) c.requires.new

pub returns-in_default-clause-drawn : goal.returns-in_default-clause-drawn
returns-in_default-clause-drawn g c = refused-draws given_by crowded_by NoMemory (seat_by 0 c.args.pass.number c.args.pass.seen c.args.pass.mark) c.args.pass.number refl c.requires.new

pub returns-in_default-clause-sees : goal.returns-in_default-clause-sees
returns-in_default-clause-sees g c = starts_itself c.args.pass.seen

pub returns-clause-sees : goal.returns-clause-sees
returns-clause-sees g c =
    let first = ap (λ (d : AtDesk). d.first) c.serve_over-ended.ensures.kept ∙ ap (λ (s : DeskSeated). s.first) c.new-seat.ensures in
    subst (λ (seen : List Entry). Begins c.into_pass.result.seen seen) first c.into_pass.ensures.sees
