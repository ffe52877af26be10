use Rattle.std.proofs.Common.{subst, ◌∙◌}
use Rattle.text_model.specs.Texts.{IsStored, offset}
use Rattle.text_model.proofs.PlaceLemmas.{offset-le}
use Rattle.buffer_store.proofs.ReplacingLemmas.{CanGoIn, can-go_in, exchange-wholly, exchange-behind}
use Rattle.buffer_store.proofs.history.History.exchange.Goals as goal

pub insert-requires-clause-at : goal.insert-requires-clause-at
insert-requires-clause-at c =
    let stored : IsStored c.args.self.now.text = subst IsStored c.lines.ensures c.len-stored.ensures.valid in
    let can : CanGoIn c.args.who c.args.from c.args.chars.now c.args.self.now c.erase.new.self (offset c.args.self.now.text c.args.from) (offset c.args.self.now.text c.args.to) =
    can-go_in c.args.who c.args.from c.args.chars.now c.args.self.now c.erase.new.self (offset c.args.self.now.text c.args.to) stored c.requires.from c.requires.ordered (offset-le c.args.self.now.text c.args.to c.requires.to) c.in_ok-taken.ensures.story c.requires.room c.requires.nodes in
    can.place

pub insert-requires-clause-room : goal.insert-requires-clause-room
insert-requires-clause-room c =
    let stored : IsStored c.args.self.now.text = subst IsStored c.lines.ensures c.len-stored.ensures.valid in
    let can : CanGoIn c.args.who c.args.from c.args.chars.now c.args.self.now c.erase.new.self (offset c.args.self.now.text c.args.from) (offset c.args.self.now.text c.args.to) =
    can-go_in c.args.who c.args.from c.args.chars.now c.args.self.now c.erase.new.self (offset c.args.self.now.text c.args.to) stored c.requires.from c.requires.ordered (offset-le c.args.self.now.text c.args.to c.requires.to) c.in_ok-taken.ensures.story c.requires.room c.requires.nodes in
    can.room

pub insert-requires-clause-nodes : goal.insert-requires-clause-nodes
insert-requires-clause-nodes c =
    let stored : IsStored c.args.self.now.text = subst IsStored c.lines.ensures c.len-stored.ensures.valid in
    let can : CanGoIn c.args.who c.args.from c.args.chars.now c.args.self.now c.erase.new.self (offset c.args.self.now.text c.args.from) (offset c.args.self.now.text c.args.to) =
    can-go_in c.args.who c.args.from c.args.chars.now c.args.self.now c.erase.new.self (offset c.args.self.now.text c.args.to) stored c.requires.from c.requires.ordered (offset-le c.args.self.now.text c.args.to c.requires.to) c.in_ok-taken.ensures.story c.requires.room c.requires.nodes in
    can.nodes

pub returns-clause-ok : goal.returns-clause-ok
returns-clause-ok c =
    let stored : IsStored c.args.self.now.text = subst IsStored c.lines.ensures c.len-stored.ensures.valid in
    let can : CanGoIn c.args.who c.args.from c.args.chars.now c.args.self.now c.erase.new.self (offset c.args.self.now.text c.args.from) (offset c.args.self.now.text c.args.to) =
    can-go_in c.args.who c.args.from c.args.chars.now c.args.self.now c.erase.new.self (offset c.args.self.now.text c.args.to) stored c.requires.from c.requires.ordered (offset-le c.args.self.now.text c.args.to c.requires.to) c.in_ok-taken.ensures.story c.requires.room c.requires.nodes in
    exchange-wholly c.args.who c.args.from c.args.chars.now c.args.self.now c.erase.new.self c.insert.new.self _ _ c.args.shifts.now.items c.reserve.new.self.items c.note.new.shifts.items c.note-2.new.shifts.items c.in_ok-taken.taken c.in_ok-put.put can
    c.in_ok-taken.ensures.story c.in_ok-put.ensures.story c.in_ok-reserve.ensures.items c.note.ensures.items c.note-2.ensures.items c.in_ok-taken.ensures.shift c.in_ok-put.ensures.shift

pub returns-clause-behind : goal.returns-clause-behind
returns-clause-behind c =
    let stored : IsStored c.args.self.now.text = subst IsStored c.lines.ensures c.len-stored.ensures.valid in
    let can : CanGoIn c.args.who c.args.from c.args.chars.now c.args.self.now c.erase.new.self (offset c.args.self.now.text c.args.from) (offset c.args.self.now.text c.args.to) =
    can-go_in c.args.who c.args.from c.args.chars.now c.args.self.now c.erase.new.self (offset c.args.self.now.text c.args.to) stored c.requires.from c.requires.ordered (offset-le c.args.self.now.text c.args.to c.requires.to) c.in_ok-taken.ensures.story c.requires.room c.requires.nodes in
    c.behind.ensures ∙ exchange-behind c.args.who c.args.from c.args.chars.now c.args.self.now c.erase.new.self c.insert.new.self _ _ c.in_ok-put.put can c.in_ok-put.ensures.story c.in_ok-put.ensures.shift
