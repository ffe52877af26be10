use Rattle.std.proofs.Common.{Ok, sym, ap, ◌∙◌}
use Rattle.requests.specs.declared.request.Request.TheVariants.{Keys}
use Rattle.json_ui.specs.Requests.{keys_request}
use Rattle.json_ui.proofs.ParameterLemmas.{texts_request-none, texts_request-strings}
use Rattle.json_ui.proofs.decoding.read_array.Goals as goal

pub returns-then-not-are_texts-clause-error : goal.returns-then-not-are_texts-clause-error
returns-then-not-are_texts-clause-error c = texts_request-none c.args.items.now (sym c.are_texts.ensures ∙ c.if-not-are_texts.true)

pub returns-clause-request : goal.returns-clause-request
returns-clause-request c =
    texts_request-strings c.args.items.now (sym c.are_texts.ensures ∙ c.if-not-are_texts.false)
    ∙ ap keys_request c.in_ok-keys.ensures.keys
    ∙ ap (λ keys. Ok (Keys keys)) (sym c.of_vec.ensures)
