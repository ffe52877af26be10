use Rattle.std.proofs.Common.{◌++◌, map, sym, ap, ◌∙◌, map-id, append-nil}
use Rattle.std.proofs.lemmas.Iterator.{YieldsList-from_chars}
use Rattle.std.proofs.lemmas.Iterator.Consumers.{YieldsList-end}
use Rattle.program_words.specs.Files.{typed_key, doubled}
use Rattle.program_words.proofs.KeyLemmas.{doubled-push}
use Rattle.program_words.proofs.file.push_name.Goals as goal

pub loop-c-init : goal.loop-c-init
loop-c-init c = sym (append-nil _)

pub loop-c-preserved : goal.loop-c-preserved
loop-c-preserved c = doubled-push _ _ _ c.loop-c.yielded c.in-Some.c c.loop-c.invariant c.in_ok-push_quoted.ensures

pub returns : goal.returns
returns c =
    let end = YieldsList-end (YieldsList-from_chars c.args.name.now c.utf8.name cc) c.loop-c.yielded _ c.loop-c.yielded_by _ _ c.in-None.is c.next.ensures.steps in
    c.loop-c.invariant ∙ ap (λ r. c.args.keys.now.items ++ map typed_key (doubled r)) (sym (map-id c.loop-c.yielded) ∙ end.0)
