use Rattle.std.proofs.Common.{refl}
use Rattle.std.proofs.lemmas.Str.{is_utf8-from_IsUtf8}
use Rattle.std.proofs.lemmas.Bool.{iff_false}
use Rattle.json_ui.proofs.ParameterLemmas.{request_in-none}
use Rattle.json_ui.proofs.decoding.read_json.Goals as goal

pub returns-in-Ok-clause-value : goal.returns-in-Ok-clause-value
returns-in-Ok-clause-value c = (is_utf8-from_IsUtf8 _ c.in-Ok.ensures.ok.0, c.in-Ok.ensures.ok.1)

pub returns-else-is_memory-clause-error : goal.returns-else-is_memory-clause-error
returns-else-is_memory-clause-error c =
    (refl, request_in-none c.args.line.now (c.in-Err.ensures.err (iff_false c.is_memory.ensures c.if-is_memory.false)))
