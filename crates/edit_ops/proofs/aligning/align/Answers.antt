use Rattle.std.proofs.Common.{◌≡◌, ◌≤◌, ◌∙◌, ℕ, List, true, false, refl, sym, ap, subst, arith, ltb, ltb-true, ltb-false}
use Rattle.std.proofs.lemmas.Result.{err_from_is_err_and}
use Rattle.text_model.specs.declared.TheConstants.{MAX_CHARS}
use Rattle.selection_set.specs.Listing.{ranges_of}
use Rattle.buffer_store.specs.Buffers.{flat_splices, AreSplicesOf}
use Rattle.edit_ops.specs.Crowding.{put_together}
use Rattle.edit_ops.specs.Aligning.{alignments, shares_line, spaced}
use Rattle.edit_ops.proofs.AligningLemmas.{shares-is, IsMeasured, measured, long-is, spaced-flat, spaced-splices}
use Rattle.edit_ops.proofs.aligning.align.Goals as goal

pub returns-then-share_lines-clause-same_line : goal.returns-then-share_lines-clause-same_line
returns-then-share_lines-clause-same_line c =
    (λ _. shares-is c.args.lines.now c.args.sels.now c.as_slice-list.result.now c.share_lines.result c.requires.held c.as_slice-list.ensures.value c.share_lines.ensures ∙ c.if-share_lines.true, λ _. refl)

pub returns-then-share_lines-clause-long : goal.returns-then-share_lines-clause-long
returns-then-share_lines-clause-long c =
    let some : shares_line c.args.lines.now (ranges_of c.args.lines.now c.args.sels.now.list) ≡ true =
    shares-is c.args.lines.now c.args.sels.now c.as_slice-list.result.now c.share_lines.result c.requires.held c.as_slice-list.ensures.value c.share_lines.ensures ∙ c.if-share_lines.true in
    (λ e. absurd (cc (e)), λ both. absurd (let two : true ≡ false = sym some ∙ both.0 in cc))

pub returns-then-lack_too_much-clause-same_line : goal.returns-then-lack_too_much-clause-same_line
returns-then-lack_too_much-clause-same_line c =
    let none : shares_line c.args.lines.now (ranges_of c.args.lines.now c.args.sels.now.list) ≡ false =
    shares-is c.args.lines.now c.args.sels.now c.as_slice-list.result.now c.share_lines.result c.requires.held c.as_slice-list.ensures.value c.share_lines.ensures ∙ c.if-share_lines.false in
    (λ e. absurd (cc (e)), λ some. absurd (let both : true ≡ false = sym some ∙ none in cc))

pub returns-then-lack_too_much-clause-long : goal.returns-then-lack_too_much-clause-long
returns-then-lack_too_much-clause-long c =
    let none : shares_line c.args.lines.now (ranges_of c.args.lines.now c.args.sels.now.list) ≡ false =
    shares-is c.args.lines.now c.args.sels.now c.as_slice-list.result.now c.share_lines.result c.requires.held c.as_slice-list.ensures.value c.share_lines.ensures ∙ c.if-share_lines.false in
    let all : ℕ = put_together (alignments c.args.lines.now c.args.tabstop.columns (ranges_of c.args.lines.now c.args.sels.now.list)) in
    let found : c.lack_too_much.result ≡ ltb MAX_CHARS all =
    long-is c.args.lines.now c.args.tabstop.columns c.args.sels.now.list c.as_slice-list.result.now c.greatest_column-last.result c.lack_too_much.result c.as_slice-list.ensures.value c.greatest_column-last.ensures c.lack_too_much.ensures in
    (λ _. (none, ltb-true MAX_CHARS all (sym found ∙ c.if-lack_too_much.true)), λ _. refl)

pub returns-in_err-columns-clause-same_line : goal.returns-in_err-columns-clause-same_line
returns-in_err-columns-clause-same_line c =
    let none : shares_line c.args.lines.now (ranges_of c.args.lines.now c.args.sels.now.list) ≡ false =
    shares-is c.args.lines.now c.args.sels.now c.as_slice-list.result.now c.share_lines.result c.requires.held c.as_slice-list.ensures.value c.share_lines.ensures ∙ c.if-share_lines.false in
    let p = err_from_is_err_and c.from_residual.result c.from_residual.ensures.1 in
    (λ e. absurd (let two = sym p.1 ∙ e in cc (p.2)), λ some. absurd (let both : true ≡ false = sym some ∙ none in cc))

pub returns-in_err-columns-clause-long : goal.returns-in_err-columns-clause-long
returns-in_err-columns-clause-long c =
    let all : ℕ = put_together (alignments c.args.lines.now c.args.tabstop.columns (ranges_of c.args.lines.now c.args.sels.now.list)) in
    let found : c.lack_too_much.result ≡ ltb MAX_CHARS all =
    long-is c.args.lines.now c.args.tabstop.columns c.args.sels.now.list c.as_slice-list.result.now c.greatest_column-last.result c.lack_too_much.result c.as_slice-list.ensures.value c.greatest_column-last.ensures c.lack_too_much.ensures in
    let few : all ≤ MAX_CHARS = ltb-false MAX_CHARS all (sym found ∙ c.if-lack_too_much.false) in
    let p = err_from_is_err_and c.from_residual.result c.from_residual.ensures.1 in
    (λ e. absurd (let two = sym p.1 ∙ e in cc (p.2)), λ both. absurd (omega (arith, both.1, few)))

pub returns-in_err-spaced-clause-same_line : goal.returns-in_err-spaced-clause-same_line
returns-in_err-spaced-clause-same_line c =
    let none : shares_line c.args.lines.now (ranges_of c.args.lines.now c.args.sels.now.list) ≡ false =
    shares-is c.args.lines.now c.args.sels.now c.as_slice-list.result.now c.share_lines.result c.requires.held c.as_slice-list.ensures.value c.share_lines.ensures ∙ c.if-share_lines.false in
    let p = err_from_is_err_and c.from_residual-in_err-spaced.result c.from_residual-in_err-spaced.ensures.1 in
    (λ e. absurd (let two = sym p.1 ∙ e in cc (p.2)), λ some. absurd (let both : true ≡ false = sym some ∙ none in cc))

pub returns-in_err-spaced-clause-long : goal.returns-in_err-spaced-clause-long
returns-in_err-spaced-clause-long c =
    let all : ℕ = put_together (alignments c.args.lines.now c.args.tabstop.columns (ranges_of c.args.lines.now c.args.sels.now.list)) in
    let found : c.lack_too_much.result ≡ ltb MAX_CHARS all =
    long-is c.args.lines.now c.args.tabstop.columns c.args.sels.now.list c.as_slice-list.result.now c.greatest_column-last.result c.lack_too_much.result c.as_slice-list.ensures.value c.greatest_column-last.ensures c.lack_too_much.ensures in
    let few : all ≤ MAX_CHARS = ltb-false MAX_CHARS all (sym found ∙ c.if-lack_too_much.false) in
    let p = err_from_is_err_and c.from_residual-in_err-spaced.result c.from_residual-in_err-spaced.ensures.1 in
    (λ e. absurd (let two = sym p.1 ∙ e in cc (p.2)), λ both. absurd (omega (arith, both.1, few)))

pub returns-clause-aligns : goal.returns-clause-aligns
returns-clause-aligns c =
    let last : ℕ = c.greatest_column-last.result in
    let columns : List ℕ = c.as_slice.result.now in
    let m : IsMeasured c.args.lines.now c.args.tabstop.columns c.args.sels.now.list columns last =
    measured c.args.lines.now c.args.tabstop.columns c.args.sels.now.list c.as_slice-list.result.now c.in_ok-columns.columns.items columns last
    c.as_slice-list.ensures.value c.in_ok-columns.ensures c.as_slice.ensures.value c.greatest_column-last.ensures in
    ap (flat_splices c.args.lines.now) (c.in_ok-spaced.ensures ∙ ap (spaced last columns) c.as_slice-list.ensures.value)
    ∙ spaced-flat c.args.lines.now c.args.tabstop.columns last columns c.args.sels.now.list m.columns_are m.last_is

pub returns-clause-splices : goal.returns-clause-splices
returns-clause-splices c =
    let last : ℕ = c.greatest_column-last.result in
    let columns : List ℕ = c.as_slice.result.now in
    let m : IsMeasured c.args.lines.now c.args.tabstop.columns c.args.sels.now.list columns last =
    measured c.args.lines.now c.args.tabstop.columns c.args.sels.now.list c.as_slice-list.result.now c.in_ok-columns.columns.items columns last
    c.as_slice-list.ensures.value c.in_ok-columns.ensures c.as_slice.ensures.value c.greatest_column-last.ensures in
    subst (AreSplicesOf c.args.lines.now) (sym (c.in_ok-spaced.ensures ∙ ap (spaced last columns) c.as_slice-list.ensures.value))
    (spaced-splices c.args.lines.now c.args.tabstop.columns last columns c.args.sels.now c.requires.held m.columns_are m.last_is)

pub returns-clause-same_line : goal.returns-clause-same_line
returns-clause-same_line c =
    let none : shares_line c.args.lines.now (ranges_of c.args.lines.now c.args.sels.now.list) ≡ false =
    shares-is c.args.lines.now c.args.sels.now c.as_slice-list.result.now c.share_lines.result c.requires.held c.as_slice-list.ensures.value c.share_lines.ensures ∙ c.if-share_lines.false in
    (λ e. absurd (cc (e)), λ some. absurd (let both : true ≡ false = sym some ∙ none in cc))

pub returns-clause-long : goal.returns-clause-long
returns-clause-long c =
    let all : ℕ = put_together (alignments c.args.lines.now c.args.tabstop.columns (ranges_of c.args.lines.now c.args.sels.now.list)) in
    let found : c.lack_too_much.result ≡ ltb MAX_CHARS all =
    long-is c.args.lines.now c.args.tabstop.columns c.args.sels.now.list c.as_slice-list.result.now c.greatest_column-last.result c.lack_too_much.result c.as_slice-list.ensures.value c.greatest_column-last.ensures c.lack_too_much.ensures in
    let few : all ≤ MAX_CHARS = ltb-false MAX_CHARS all (sym found ∙ c.if-lack_too_much.false) in
    (λ e. absurd (cc (e)), λ both. absurd (omega (arith, both.1, few)))

pub returns-clause-fits : goal.returns-clause-fits
returns-clause-fits c =
    let all : ℕ = put_together (alignments c.args.lines.now c.args.tabstop.columns (ranges_of c.args.lines.now c.args.sels.now.list)) in
    let found : c.lack_too_much.result ≡ ltb MAX_CHARS all =
    long-is c.args.lines.now c.args.tabstop.columns c.args.sels.now.list c.as_slice-list.result.now c.greatest_column-last.result c.lack_too_much.result c.as_slice-list.ensures.value c.greatest_column-last.ensures c.lack_too_much.ensures in
    ltb-false MAX_CHARS all (sym found ∙ c.if-lack_too_much.false)
