use Rattle.std.proofs.Common.{◌≡◌, ◌≤◌, ◌++◌, length, string_bytes}
use Rattle.text_model.specs.Texts.{line_count}
use Rattle.session_draws.specs.Summary.{head_text}
use Rattle.kak_world.specs.Flat.{text_of}
use Rattle.kak_engine.specs.Steps.{run}
use Rattle.kak_app.specs.Generated.{sels_lines}
use Rattle.kak_app.proofs.generating.summary.Given as goal

-- the lines of the clients with smaller numbers stand behind the first ones
abbrev pub invariant-loop-who : goal.invariant-loop-who
invariant-loop-who g l = record {
  lines : string_bytes l.text ≡ head_text (length l.engine.history) (length (text_of 0 (run l.engine.history))) (line_count (text_of 0 (run l.engine.history))) ++ sels_lines (run l.engine.history) l.who;
  within : l.who ≤ l.clients;
}
