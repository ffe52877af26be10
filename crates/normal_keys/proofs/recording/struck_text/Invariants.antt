use Rattle.std.proofs.Common.{◌≡◌, take}
use Rattle.std.specs.Prelude.{string_bytes, encode_utf8_all}
use Rattle.normal_keys.specs.Recording.{struck_text}
use Rattle.normal_keys.proofs.recording.struck_text.Given as goal

abbrev pub invariant-loop-key : goal.invariant-loop-key
invariant-loop-key l = string_bytes l.text ≡ encode_utf8_all (struck_text (take l.key-index l.keys))
