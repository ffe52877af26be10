use Rattle.std.proofs.Common.{◌++◌, ap, ◌∙◌, encode_utf8_all}
use Rattle.key_names.specs.Printing.{spelling}
use Rattle.std.specs.String.{string_bytes}
use Rattle.std.proofs.lemmas.Str.{IsUtf8-string_bytes}
use Rattle.key_names.proofs.RoundTrip.{read_text-chars}
use Rattle.key_names.proofs.printing.print_key.Goals as goal

pub returns-clause-read_back : goal.returns-clause-read_back
returns-clause-read_back c h =
    read_text-chars c.args.key (string_bytes c.push_key.new.text) (IsUtf8-string_bytes c.push_key.new.text) (c.in_ok-push_key.ensures ∙ ap (λ b. b ++ encode_utf8_all (spelling c.args.key)) c.new-text.ensures.bytes) h
