use Rattle.std.proofs.Common.{◌++◌, sym, ap, ◌∙◌}
use Rattle.std.specs.Str.{chars}
use Rattle.std.proofs.lemmas.Result.{err_from_is_err_and}
use Rattle.serde_json.specs.View.{view}
use Rattle.serde_json.specs.Find.{as_str}
use Rattle.key_names.specs.Reading.{read_text}
use Rattle.json_ui.specs.Requests.{keys_of_texts}
use Rattle.json_ui.specs.Parameters.{texts_seen}
use Rattle.json_ui.proofs.ParameterLemmas.{keys_of_texts-more, keys_of_texts-bad, keys_of_texts-end, line-error}
use Rattle.json_ui.proofs.decoding.read_items.Goals as goal

pub returns-in_err-more-clause-error : goal.returns-in_err-more-clause-error
returns-in_err-more-clause-error c =
    let vs = c.args.items.now in
    let item = c.index-items-k.result in
    let text = ap (λ v. as_str (view v)) (sym c.index-items-k.is) ∙ sym c.in-Some.ensures in
    let said = line-error c.in_err-more.field-0.0 c.loop-k.k (read_text (chars c.in-Some.text.now)) (keys_of_texts 0 (texts_seen vs)) c.in_err-more.ensures.error (λ bad. sym c.loop-k.invariant ∙ keys_of_texts-bad vs c.loop-k.k item c.in-Some.text.now c.loop-k.keys.items c.requires.strings c.loop-k-test.true text bad) in
    let p = err_from_is_err_and c.from_residual.result c.from_residual.ensures.1 in
    rw (p.1, p.2) said

pub loop-k-preserved : goal.loop-k-preserved
loop-k-preserved c =
    let vs = c.args.items.now in
    let item = c.index-items-k.result in
    let text = ap (λ v. as_str (view v)) (sym c.index-items-k.is) ∙ sym c.in-Some.ensures in
    keys_of_texts-more vs c.loop-k.k item c.in-Some.text.now c.loop-k.keys.items c.in_ok-more.more.items c.extend_from_slice.new.self.items c.requires.strings c.loop-k-test.true text c.in_ok-more.ensures.keys
    (c.in_ok-extend_from_slice.ensures.items ∙ ap (λ ks. c.loop-k.keys.items ++ ks) c.as_slice.ensures.value)
    ∙ c.loop-k.invariant

pub returns-clause-keys : goal.returns-clause-keys
returns-clause-keys c =
    sym c.loop-k.invariant ∙ keys_of_texts-end c.args.items.now c.loop-k.k c.loop-k.keys.items c.requires.strings c.loop-k-test.false
