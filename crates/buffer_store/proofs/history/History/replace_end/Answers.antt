use Rattle.std.proofs.Common.{◌≡◌, ◌-◌, ◌≤◌, List, false, length, ap, sym, subst, ◌∙◌, arith, OnOk, OnErr}
use Rattle.text_model.specs.declared.TheConstants.{MAX_CHARS}
use Rattle.text_model.specs.Texts.{offset}
use Rattle.text_model.specs.Changes.{Change, all_changed, exchange, replacement}
use Rattle.text_model.proofs.PlaceLemmas.{offset-le, offset-end}
use Rattle.undo_model.specs.Stories.{is_undo_full}
use Rattle.buffer_store.specs.Histories.{IsWholly, IsPartly}
use Rattle.buffer_store.proofs.ReplacingLemmas.{IsEndKept, end-kept, end-plain}
use Rattle.buffer_store.proofs.history.History.replace_end.Goals as goal

pub exchange-requires-clause-ordered : goal.exchange-requires-clause-ordered
exchange-requires-clause-ordered c =
    let last : offset c.args.self.now.text c.last_place-last.result ≡ length c.args.self.now.text - 1 = ap (λ x. offset x c.last_place-last.result) (sym c.lines.ensures) ∙ c.last_place-last.ensures.last ∙ ap (λ x. length x - 1) c.lines.ensures in
    let kept : IsEndKept c.args.self.now.text c.args.from c.last_place-last.result c.args.chars.now = end-kept c.args.self.now.text c.args.from c.args.to c.last_place-last.result c.args.chars.now c.requires.from c.requires.to last (sym c.keeps_newline.ensures ∙ c.if-keeps_newline.true) in
    kept.ordered

pub exchange-requires-clause-room : goal.exchange-requires-clause-room
exchange-requires-clause-room c =
    let last : offset c.args.self.now.text c.last_place-last.result ≡ length c.args.self.now.text - 1 = ap (λ x. offset x c.last_place-last.result) (sym c.lines.ensures) ∙ c.last_place-last.ensures.last ∙ ap (λ x. length x - 1) c.lines.ensures in
    let kept : IsEndKept c.args.self.now.text c.args.from c.last_place-last.result c.args.chars.now = end-kept c.args.self.now.text c.args.from c.args.to c.last_place-last.result c.args.chars.now c.requires.from c.requires.to last (sym c.keeps_newline.ensures ∙ c.if-keeps_newline.true) in
    let P : List Change → Type 0 = λ cs. length (all_changed c.args.self.now.text cs) ≤ MAX_CHARS in
    subst P kept.same c.requires.room

pub exchange-requires-clause-nodes : goal.exchange-requires-clause-nodes
exchange-requires-clause-nodes c =
    let last : offset c.args.self.now.text c.last_place-last.result ≡ length c.args.self.now.text - 1 = ap (λ x. offset x c.last_place-last.result) (sym c.lines.ensures) ∙ c.last_place-last.ensures.last ∙ ap (λ x. length x - 1) c.lines.ensures in
    let kept : IsEndKept c.args.self.now.text c.args.from c.last_place-last.result c.args.chars.now = end-kept c.args.self.now.text c.args.from c.args.to c.last_place-last.result c.args.chars.now c.requires.from c.requires.to last (sym c.keeps_newline.ensures ∙ c.if-keeps_newline.true) in
    let P : List Change → Type 0 = λ cs. is_undo_full c.args.who cs c.args.self.now ≡ false in
    subst P kept.same c.requires.nodes

pub returns-then-keeps_newline-clause-ok : goal.returns-then-keeps_newline-clause-ok
returns-then-keeps_newline-clause-ok c =
    let last : offset c.args.self.now.text c.last_place-last.result ≡ length c.args.self.now.text - 1 = ap (λ x. offset x c.last_place-last.result) (sym c.lines.ensures) ∙ c.last_place-last.ensures.last ∙ ap (λ x. length x - 1) c.lines.ensures in
    let kept : IsEndKept c.args.self.now.text c.args.from c.last_place-last.result c.args.chars.now = end-kept c.args.self.now.text c.args.from c.args.to c.last_place-last.result c.args.chars.now c.requires.from c.requires.to last (sym c.keeps_newline.ensures ∙ c.if-keeps_newline.true) in
    let P : List Change → Type 0 = λ cs. OnOk c.exchange.result (IsWholly c.args.who cs c.args.self.now c.exchange.new.self c.args.shifts.now.items c.exchange.new.shifts.items) in
    subst P (sym kept.same) c.exchange.ensures.ok

pub returns-then-keeps_newline-clause-err : goal.returns-then-keeps_newline-clause-err
returns-then-keeps_newline-clause-err c =
    let last : offset c.args.self.now.text c.last_place-last.result ≡ length c.args.self.now.text - 1 = ap (λ x. offset x c.last_place-last.result) (sym c.lines.ensures) ∙ c.last_place-last.ensures.last ∙ ap (λ x. length x - 1) c.lines.ensures in
    let kept : IsEndKept c.args.self.now.text c.args.from c.last_place-last.result c.args.chars.now = end-kept c.args.self.now.text c.args.from c.args.to c.last_place-last.result c.args.chars.now c.requires.from c.requires.to last (sym c.keeps_newline.ensures ∙ c.if-keeps_newline.true) in
    let P : List Change → Type 0 = λ cs. OnErr c.exchange.result (IsPartly c.args.who cs c.args.self.now c.exchange.new.self c.args.shifts.now.items c.exchange.new.shifts.items) in
    subst P (sym kept.same) c.exchange.ensures.err

pub exchange-requires-2-clause-ordered : goal.exchange-requires-2-clause-ordered
exchange-requires-2-clause-ordered c =
    omega (arith, offset-le c.args.self.now.text c.args.from c.requires.from, ap (offset c.args.self.now.text) c.requires.to, offset-end c.args.self.now.text)

pub exchange-requires-2-clause-room : goal.exchange-requires-2-clause-room
exchange-requires-2-clause-room c =
    let same : replacement c.args.self.now.text (offset c.args.self.now.text c.args.from) (length c.args.self.now.text) c.args.chars.now ≡ exchange c.args.self.now.text (offset c.args.self.now.text c.args.from) (offset c.args.self.now.text c.args.to) c.args.chars.now = end-plain c.args.self.now.text c.args.from c.args.to c.args.chars.now c.requires.from c.requires.to (sym c.keeps_newline.ensures ∙ c.if-keeps_newline.false) in
    let P : List Change → Type 0 = λ cs. length (all_changed c.args.self.now.text cs) ≤ MAX_CHARS in
    subst P same c.requires.room

pub exchange-requires-2-clause-nodes : goal.exchange-requires-2-clause-nodes
exchange-requires-2-clause-nodes c =
    let same : replacement c.args.self.now.text (offset c.args.self.now.text c.args.from) (length c.args.self.now.text) c.args.chars.now ≡ exchange c.args.self.now.text (offset c.args.self.now.text c.args.from) (offset c.args.self.now.text c.args.to) c.args.chars.now = end-plain c.args.self.now.text c.args.from c.args.to c.args.chars.now c.requires.from c.requires.to (sym c.keeps_newline.ensures ∙ c.if-keeps_newline.false) in
    let P : List Change → Type 0 = λ cs. is_undo_full c.args.who cs c.args.self.now ≡ false in
    subst P same c.requires.nodes

pub returns-clause-ok : goal.returns-clause-ok
returns-clause-ok c =
    let same : replacement c.args.self.now.text (offset c.args.self.now.text c.args.from) (length c.args.self.now.text) c.args.chars.now ≡ exchange c.args.self.now.text (offset c.args.self.now.text c.args.from) (offset c.args.self.now.text c.args.to) c.args.chars.now = end-plain c.args.self.now.text c.args.from c.args.to c.args.chars.now c.requires.from c.requires.to (sym c.keeps_newline.ensures ∙ c.if-keeps_newline.false) in
    let P : List Change → Type 0 = λ cs. OnOk c.exchange-2.result (IsWholly c.args.who cs c.args.self.now c.exchange-2.new.self c.args.shifts.now.items c.exchange-2.new.shifts.items) in
    subst P (sym same) c.exchange-2.ensures.ok

pub returns-clause-err : goal.returns-clause-err
returns-clause-err c =
    let same : replacement c.args.self.now.text (offset c.args.self.now.text c.args.from) (length c.args.self.now.text) c.args.chars.now ≡ exchange c.args.self.now.text (offset c.args.self.now.text c.args.from) (offset c.args.self.now.text c.args.to) c.args.chars.now = end-plain c.args.self.now.text c.args.from c.args.to c.args.chars.now c.requires.from c.requires.to (sym c.keeps_newline.ensures ∙ c.if-keeps_newline.false) in
    let P : List Change → Type 0 = λ cs. OnErr c.exchange-2.result (IsPartly c.args.who cs c.args.self.now c.exchange-2.new.self c.args.shifts.now.items c.exchange-2.new.shifts.items) in
    subst P (sym same) c.exchange-2.ensures.err
