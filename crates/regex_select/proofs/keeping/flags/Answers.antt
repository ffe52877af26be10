use Rattle.std.proofs.Common.{◌≡◌, Bool, map, ap, ◌∙◌}
use Rattle.std.proofs.lemmas.Result.{IfOk-weaker}
use Rattle.std.specs.Prelude.{not, if◌then◌else◌}
use Rattle.selection_set.specs.Listing.{ranges_of}
use Rattle.regex_ports.specs.Matching.{is_found_in}
use Rattle.regex_select.specs.Rows.{is_kept}
use Rattle.regex_select.proofs.TextLemmas.{kept-flags}
use Rattle.regex_select.proofs.keeping.flags.Goals as goal

pub returns : goal.returns
returns g c =
    let source = g.P.Pattern.source c.args.pattern.now in
    let text = c.args.lines.now in
    let ranges = ranges_of text c.args.sels.now.list in
    let test : Bool → Bool = λ has. if c.args.matching then has else not has in
    IfOk-weaker c.wanted.result (λ v. v.items ≡ map test c.as_slice.result.now) (λ v. v.items ≡ map (is_kept c.args.matching source text) ranges)
    (λ v e. e ∙ ap (map test) (c.as_slice.ensures.value ∙ c.in_ok-found.ensures ∙ ap (map (is_found_in source)) c.new-texts.ensures) ∙ kept-flags c.args.matching source text ranges) c.wanted.ensures
