use Rattle.std.proofs.Common.{◌≡◌, [], ◌∷◌, ◌++◌, Ok, string_bytes, encode_utf8_all, ap, ◌∙◌, sym}
use Rattle.std.specs.Str.{chars}
use Rattle.std.proofs.lemmas.Str.{chars_from_encodes, encodes-chars, IsUtf8-string_bytes}
use Rattle.kak_words.specs.Quoting.{doubled, quoted, quoted_command}
use Rattle.kak_words.specs.Reading.{commands_of}
use Rattle.kak_words.proofs.QuotingLemmas.{quoted-bytes, commands_of-quoted}
use Rattle.kak_words.proofs.quoting.quote.Goals as goal

pub returns-clause-text : goal.returns-clause-text
returns-clause-text c =
    let before : string_bytes c.push_str.new.self ≡ 39 ∷ [] = c.in_ok-push_str.ensures.bytes ∙ ap (λ t. t ++ 39 ∷ []) c.new-text.ensures.bytes in
    let inside = c.in_ok-push_doubled.ensures ∙ ap (λ t. string_bytes c.push_str.new.self ++ encode_utf8_all (doubled t)) (c.as_slice.ensures.value ∙ c.in_ok-characters.ensures) in
    quoted-bytes (chars c.args.word.now) (string_bytes c.push_str.new.self) (string_bytes c.push_doubled.new.out) (string_bytes c.push_str-2.new.self) before inside c.in_ok-push_str-2.ensures.bytes

pub returns-clause-read_back : goal.returns-clause-read_back
returns-clause-read_back c =
    let text = returns-clause-text c in
    ap commands_of (sym (chars_from_encodes (quoted (chars c.args.word.now)) (string_bytes c.push_str-2.new.self) (IsUtf8-string_bytes c.push_str-2.new.self) (sym text)))
    ∙ commands_of-quoted (chars c.args.word.now)
    ∙ ap (λ t. Ok (quoted_command t ∷ [])) (encodes-chars c.args.word.now c.utf8.word)
