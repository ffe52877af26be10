use Rattle.std.proofs.Common.{◌≡◌, ◌+◌, ◌<◌, ◌≤◌, ℕ, List, false, length, ap, sym, subst, ◌∙◌, OnOk, OnErr}
use Rattle.text_model.specs.declared.TheConstants.{MAX_CHARS}
use Rattle.text_model.specs.declared.coords.Coord.{Coord}
use Rattle.text_model.specs.Texts.{IsStored, offset, coord_at, end_coord, line_count}
use Rattle.text_model.specs.Changes.{Change, all_changed, put_in, erased, exchange, replacement}
use Rattle.text_model.proofs.PlaceLemmas.{offset-end}
use Rattle.undo_model.specs.Stories.{is_undo_full, edited}
use Rattle.buffer_store.specs.Histories.{IsWholly, IsPartly, IsBehind}
use Rattle.buffer_store.proofs.MakingLemmas.{on_any}
use Rattle.buffer_store.proofs.ReplacingLemmas.{inside-plain, inside-behind, end-behind, below-by_line, end-by_line, if-ok}
use Rattle.buffer_store.proofs.history.History.replace.Goals as goal

pub exchange-requires-clause-room : goal.exchange-requires-clause-room
exchange-requires-clause-room c =
    let below : offset c.args.self.now.text c.args.to < length c.args.self.now.text = below-by_line c.lines.result.now c.args.self.now.text c.args.to c.line_count.result c.requires.to c.if-to-line_count.true c.line_count.ensures.value c.lines.ensures in
    let same : replacement c.args.self.now.text (offset c.args.self.now.text c.args.from) (offset c.args.self.now.text c.args.to) c.args.chars.now ≡ exchange c.args.self.now.text (offset c.args.self.now.text c.args.from) (offset c.args.self.now.text c.args.to) c.args.chars.now = inside-plain c.args.self.now.text (offset c.args.self.now.text c.args.from) (offset c.args.self.now.text c.args.to) c.args.chars.now below in
    let P : List Change → Type 0 = λ cs. length (all_changed c.args.self.now.text cs) ≤ MAX_CHARS in
    subst P same c.requires.room

pub exchange-requires-clause-nodes : goal.exchange-requires-clause-nodes
exchange-requires-clause-nodes c =
    let below : offset c.args.self.now.text c.args.to < length c.args.self.now.text = below-by_line c.lines.result.now c.args.self.now.text c.args.to c.line_count.result c.requires.to c.if-to-line_count.true c.line_count.ensures.value c.lines.ensures in
    let same : replacement c.args.self.now.text (offset c.args.self.now.text c.args.from) (offset c.args.self.now.text c.args.to) c.args.chars.now ≡ exchange c.args.self.now.text (offset c.args.self.now.text c.args.from) (offset c.args.self.now.text c.args.to) c.args.chars.now = inside-plain c.args.self.now.text (offset c.args.self.now.text c.args.from) (offset c.args.self.now.text c.args.to) c.args.chars.now below in
    let P : List Change → Type 0 = λ cs. is_undo_full c.args.who cs c.args.self.now ≡ false in
    subst P same c.requires.nodes

pub returns-then-to-line_count-clause-ok : goal.returns-then-to-line_count-clause-ok
returns-then-to-line_count-clause-ok c =
    let below : offset c.args.self.now.text c.args.to < length c.args.self.now.text = below-by_line c.lines.result.now c.args.self.now.text c.args.to c.line_count.result c.requires.to c.if-to-line_count.true c.line_count.ensures.value c.lines.ensures in
    let same : replacement c.args.self.now.text (offset c.args.self.now.text c.args.from) (offset c.args.self.now.text c.args.to) c.args.chars.now ≡ exchange c.args.self.now.text (offset c.args.self.now.text c.args.from) (offset c.args.self.now.text c.args.to) c.args.chars.now = inside-plain c.args.self.now.text (offset c.args.self.now.text c.args.from) (offset c.args.self.now.text c.args.to) c.args.chars.now below in
    let P : List Change → Type 0 = λ cs. OnOk c.exchange.result (IsWholly c.args.who cs c.args.self.now c.exchange.new.self c.args.shifts.now.items c.exchange.new.shifts.items) in
    subst P (sym same) c.exchange.ensures.ok

pub returns-then-to-line_count-clause-err : goal.returns-then-to-line_count-clause-err
returns-then-to-line_count-clause-err c =
    let below : offset c.args.self.now.text c.args.to < length c.args.self.now.text = below-by_line c.lines.result.now c.args.self.now.text c.args.to c.line_count.result c.requires.to c.if-to-line_count.true c.line_count.ensures.value c.lines.ensures in
    let same : replacement c.args.self.now.text (offset c.args.self.now.text c.args.from) (offset c.args.self.now.text c.args.to) c.args.chars.now ≡ exchange c.args.self.now.text (offset c.args.self.now.text c.args.from) (offset c.args.self.now.text c.args.to) c.args.chars.now = inside-plain c.args.self.now.text (offset c.args.self.now.text c.args.from) (offset c.args.self.now.text c.args.to) c.args.chars.now below in
    let P : List Change → Type 0 = λ cs. OnErr c.exchange.result (IsPartly c.args.who cs c.args.self.now c.exchange.new.self c.args.shifts.now.items c.exchange.new.shifts.items) in
    subst P (sym same) c.exchange.ensures.err

pub returns-then-to-line_count-clause-behind : goal.returns-then-to-line_count-clause-behind
returns-then-to-line_count-clause-behind c =
    let below : offset c.args.self.now.text c.args.to < length c.args.self.now.text = below-by_line c.lines.result.now c.args.self.now.text c.args.to c.line_count.result c.requires.to c.if-to-line_count.true c.line_count.ensures.value c.lines.ensures in
    let same : replacement c.args.self.now.text (offset c.args.self.now.text c.args.from) (offset c.args.self.now.text c.args.to) c.args.chars.now ≡ exchange c.args.self.now.text (offset c.args.self.now.text c.args.from) (offset c.args.self.now.text c.args.to) c.args.chars.now = inside-plain c.args.self.now.text (offset c.args.self.now.text c.args.from) (offset c.args.self.now.text c.args.to) c.args.chars.now below in
    if-ok c.exchange.result _ (λ b. b ≡ coord_at c.exchange.new.self.text (offset c.args.self.now.text c.args.from + length (put_in (erased c.args.self.now.text (offset c.args.self.now.text c.args.from) (offset c.args.self.now.text c.args.to)) (offset c.args.self.now.text c.args.from) c.args.chars.now))) (IsBehind c.args.self.now.text c.exchange.new.self.text c.args.to)
    (λ b w e. inside-behind c.args.who c.args.from c.args.to b c.args.chars.now c.args.self.now c.exchange.new.self (subst IsStored c.lines.ensures c.line_count.ensures.valid) c.requires.from c.requires.to c.requires.ordered below c.requires.room (w.story ∙ ap (λ cs. edited c.args.who cs c.args.self.now) (sym same)) e)
    c.exchange.ensures.ok c.exchange.ensures.behind

pub replace_end-requires-clause-room : goal.replace_end-requires-clause-room
replace_end-requires-clause-room c =
    let last : c.args.to ≡ end_coord c.args.self.now.text = end-by_line c.lines.result.now c.args.self.now.text c.args.to c.line_count.result c.requires.to c.if-to-line_count.false c.line_count.ensures.value c.lines.ensures in
    let at : offset c.args.self.now.text c.args.to ≡ length c.args.self.now.text = ap (offset c.args.self.now.text) last ∙ offset-end c.args.self.now.text in
    let P : ℕ → Type 0 = λ n. length (all_changed c.args.self.now.text (replacement c.args.self.now.text (offset c.args.self.now.text c.args.from) n c.args.chars.now)) ≤ MAX_CHARS in
    subst P at c.requires.room

pub replace_end-requires-clause-nodes : goal.replace_end-requires-clause-nodes
replace_end-requires-clause-nodes c =
    let last : c.args.to ≡ end_coord c.args.self.now.text = end-by_line c.lines.result.now c.args.self.now.text c.args.to c.line_count.result c.requires.to c.if-to-line_count.false c.line_count.ensures.value c.lines.ensures in
    let at : offset c.args.self.now.text c.args.to ≡ length c.args.self.now.text = ap (offset c.args.self.now.text) last ∙ offset-end c.args.self.now.text in
    let P : ℕ → Type 0 = λ n. is_undo_full c.args.who (replacement c.args.self.now.text (offset c.args.self.now.text c.args.from) n c.args.chars.now) c.args.self.now ≡ false in
    subst P at c.requires.nodes

pub returns-in_err-replace_end-clause-err : goal.returns-in_err-replace_end-clause-err
returns-in_err-replace_end-clause-err c =
    let last : c.args.to ≡ end_coord c.args.self.now.text = end-by_line c.lines.result.now c.args.self.now.text c.args.to c.line_count.result c.requires.to c.if-to-line_count.false c.line_count.ensures.value c.lines.ensures in
    let at : offset c.args.self.now.text c.args.to ≡ length c.args.self.now.text = ap (offset c.args.self.now.text) last ∙ offset-end c.args.self.now.text in
    let P : ℕ → Type 0 = λ n. IsPartly c.args.who (replacement c.args.self.now.text (offset c.args.self.now.text c.args.from) n c.args.chars.now) c.args.self.now c.replace_end.new.self c.args.shifts.now.items c.replace_end.new.shifts.items in
    on_any c.from_residual.result _ (subst P (sym at) c.in_err-replace_end.ensures.err)

pub returns-clause-ok : goal.returns-clause-ok
returns-clause-ok c =
    let last : c.args.to ≡ end_coord c.args.self.now.text = end-by_line c.lines.result.now c.args.self.now.text c.args.to c.line_count.result c.requires.to c.if-to-line_count.false c.line_count.ensures.value c.lines.ensures in
    let at : offset c.args.self.now.text c.args.to ≡ length c.args.self.now.text = ap (offset c.args.self.now.text) last ∙ offset-end c.args.self.now.text in
    let P : ℕ → Type 0 = λ n. IsWholly c.args.who (replacement c.args.self.now.text (offset c.args.self.now.text c.args.from) n c.args.chars.now) c.args.self.now c.replace_end.new.self c.args.shifts.now.items c.replace_end.new.shifts.items in
    subst P (sym at) c.in_ok-replace_end.ensures.ok

pub returns-clause-behind : goal.returns-clause-behind
returns-clause-behind c =
    let at_line : ℕ → Coord = λ n. record { line = n; column = 0 } in
    end-behind c.args.self.now.text c.replace_end.new.self.text c.args.to (at_line c.line_count-2.result)
    (subst IsStored c.lines-2.ensures c.line_count-2.ensures.valid)
    (end-by_line c.lines.result.now c.args.self.now.text c.args.to c.line_count.result c.requires.to c.if-to-line_count.false c.line_count.ensures.value c.lines.ensures)
    (ap at_line (c.line_count-2.ensures.value ∙ ap line_count c.lines-2.ensures))
