use Rattle.std.proofs.Common.{◌++◌, inl, slice_range, encode_utf8_all, ap₂, ◌∙◌, arith}
use Rattle.text_model.specs.Texts.{offset}
use Rattle.regex_select.proofs.writing.write.Goals as goal

pub push_slice-requires : goal.push_slice-requires
push_slice-requires c = record {
  from = inl c.requires.low;
  to = c.behind.ensures.place;
  ordered = omega (arith, c.requires.ordered, c.behind.ensures.offset);
}

pub returns : goal.returns
returns c =
    let text = c.args.lines.now in
    c.in_ok-push_slice.ensures ∙ ap₂ (λ b o. b ++ encode_utf8_all (slice_range text (offset text c.args.sel.low) o)) c.clear.ensures.bytes c.behind.ensures.offset
