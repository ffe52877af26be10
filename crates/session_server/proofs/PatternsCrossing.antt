-- Patterns over regular expressions may cross threads, and what a world holds patterns in does where they do. Both are found
-- in parts, since a search through all of it at once ends too soon.
use denote.RattleType.{RattleType}
use denote.Param.Send.{IsSend, sendable}
use Rattle.std.proofs.Crossing.{crosses as std_crosses}
use Rattle.regex_hir.specs.contracts.hir.Hir as Hir
use Rattle.regex_hir.proofs.hir.Hir.TheLaws.TheKnot.{crosses as knot}
use Rattle.regex_dfa.specs.contracts.dfa.Dfa as Dfa
use Rattle.regex_meta.specs.contracts.plan.Plans as Plans
use Rattle.regex_meta.specs.contracts.signs.Signs as Signs
use Rattle.regex_meta.specs.contracts.program.Program as Program
use Rattle.regex_ports.specs.declared.pattern.Pattern.{Ghosts}
use Rattle.regex_ports.specs.contracts.regular.RegexPattern as RegexPattern
use Rattle.kak_faces.specs.contracts.face.Face as Face
use Rattle.face_texts.specs.contracts.text.FaceText as FaceText
use Rattle.face_texts.specs.contracts.palette.Palette as Palette
use Rattle.face_texts.specs.contracts.table.FaceTable as FaceTable
use Rattle.highlight_paint.specs.contracts.highlighters.Highlighters as Highlighters
use Rattle.scope_tables.specs.contracts.session_tables.Tables as Tables

-- A tree that holds trees crosses where its layers do, which the lemmas of its knot say. `(T.the_field).row` is T as another
-- type has it for a field.
hir_send : IsSend (Hir.the_field).row
hir_send = search (knot, sendable, std_crosses) depth 60 fits 20000

dfa_send : IsSend (Dfa.the_field).row
dfa_send = search (sendable, std_crosses) depth 60 fits 20000

plans_send : IsSend (Plans.the_field).row
plans_send = search (hir_send, sendable, std_crosses) depth 60 fits 20000

signs_send : IsSend (Signs.the_field).row
signs_send = search (hir_send, sendable, std_crosses) depth 60 fits 20000

program_send : IsSend (Program.the_field).row
program_send = search (hir_send, dfa_send, plans_send, signs_send, sendable, std_crosses) depth 60 fits 20000

pub pattern_send : IsSend RegexPattern.the_row
pattern_send = search (program_send, sendable, std_crosses) depth 60 fits 20000

pub face_send : IsSend (Face.the_field).row
face_send = search sendable depth 60 fits 20000

face_text_send : IsSend (FaceText.the_field).row
face_text_send = search (face_send, sendable, std_crosses) depth 60 fits 20000

palette_send : IsSend (Palette.the_field).row
palette_send = search (face_send, sendable) depth 60 fits 20000

pub faces_send : IsSend FaceTable.the_row
faces_send = search (palette_send, face_text_send, sendable, std_crosses) depth 60 fits 20000

pub highlighters_send : (P : RattleType) → IsSend P → (g : Ghosts P.Denot) → IsSend (Highlighters.the_row P g)
highlighters_send P s g = search (face_text_send, sendable, std_crosses) depth 60 fits 20000

pub tables_send : (P : RattleType) → IsSend P → (g : Ghosts P.Denot) → IsSend (Tables.the_row P g)
tables_send P s g = search (sendable, std_crosses) depth 60 fits 20000

pub ruleset patterns_cross = (pattern_send, faces_send, highlighters_send, tables_send)
