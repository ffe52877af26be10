use Rattle.std.proofs.Common.{◌≡◌, ◌++◌, encode_utf8_all, ap, ap₂, ◌∙◌}
use Rattle.std.proofs.lemmas.List.{append-nil}
use Rattle.compact_chars.specs.Rows.{chars_of}
use Rattle.regex_select.proofs.TextLemmas.{waited-added}
use Rattle.regex_select.proofs.gathering.Gathered.with_wide.Goals as goal

pub returns : goal.returns
returns c =
    let text : c.push_utf8.new.text.bytes.items ≡ c.args.self = waited-added c.self.inside.text.bytes.items c.self.inside.waiting.items _ _ _ c.in_ok-push_utf8.ensures c.as_slice.ensures.value c.self.invariant c.self.view_is in
    ap₂ ◌++◌ (c.in_ok-push_utf8-2.ensures ∙ ap (λ t. t ++ encode_utf8_all (chars_of c.args.chars)) text) c.clear.ensures.items ∙ append-nil (c.args.self ++ encode_utf8_all (chars_of c.args.chars))
