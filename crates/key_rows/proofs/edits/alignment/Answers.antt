use Rattle.std.proofs.Common.{◌≡◌, false, Err, ap, sym, subst, ◌∙◌}
use Rattle.edit_ops.specs.declared.aligning.AlignError.TheVariants as AlignError
use Rattle.kak_world.proofs.AnswerLemmas.{error-of}
use Rattle.list_model.specs.Ranges.{Selected}
use Rattle.selection_set.specs.Listing.{ranges_of}
use Rattle.edit_ops.specs.Aligning.{shares_line}
use Rattle.kak_world.specs.Flat.{text_of, sels_of}
use Rattle.key_rows.proofs.RegisterLemmas.{crowded-aligns, long-fails, align-fails, false-by}
use Rattle.key_rows.proofs.edits.alignment.Goals as goal

pub returns-in-Err-TooLong-clause-refused : goal.returns-in-Err-TooLong-clause-refused
returns-in-Err-TooLong-clause-refused g c =
    let flat = c.args.world.now.flat in
    let apart : shares_line (text_of c.args.who flat) (sels_of c.args.who flat).list ≡ false =
    ap (λ (x : Selected). shares_line (text_of c.args.who flat) x.list) c.sels.ensures.sels
    ∙ subst (λ t. shares_line t (ranges_of t c.sels.result.now.list) ≡ false) c.lines-lines.ensures (false-by _ (λ e. absurd (let no : AlignError.TooLong ≡ AlignError.SameLine = ap (error-of AlignError.TooLong) (sym (ap Err c.in-Err-TooLong.field-0-is) ∙ c.in-Err-TooLong.ensures.same_line.1 e) in cc))) in
    long-fails c.long_refusal.result c.args.who flat _ c.long_refusal.ensures
    (align-fails c.args.who flat apart (crowded-aligns c.args.who flat c.lines-lines.result.now c.sels.result.now c.tabstop.result.columns c.lines-lines.ensures c.sels.ensures.sels c.tabstop.ensures.value c.sels.ensures.held c.is_stored.ensures (c.in-Err-TooLong.ensures.long.0 (ap Err c.in-Err-TooLong.field-0-is)).1))
