use Rattle.std.proofs.Common.{List, ℕ, subst, arith}
use Rattle.std.specs.declared.option.Option.{Option}
use Rattle.std.specs.Vec.{vec_len, vec_capacity}
use Rattle.text_model.specs.Texts.{offset}
use Rattle.text_model.specs.Changes.{Change, erasure}
use Rattle.change_list.specs.declared.change.Change.{Change as Kept}
use Rattle.buffer_store.specs.Stored.{IsKeptAlone, IsKeptStep}
use Rattle.buffer_store.specs.Histories.{seen_pending}
use Rattle.buffer_store.proofs.HistoryLemmas.{few-branches}
use Rattle.buffer_store.proofs.EditedLemmas.{history-edited}
use Rattle.buffer_store.proofs.history.History.erase.Goals as goal

pub add-requires-clause-few : goal.add-requires-clause-few
add-requires-clause-few c = omega (arith, c.in_ok-fresh.ensures.taken, c.self.inside.branches.ok.0, few-branches c.self.inside.lines c.self.inside.branches.items c.self.inside.current c.self.inside.saved (seen_pending c.self.inside.pending) c.self.invariant.told)

pub invariant_of-self-in-Some : goal.invariant_of-self-in-Some
invariant_of-self-in-Some c =
    let f : List ℕ → List Change = λ t. erasure t (offset t c.args.from) (offset t c.args.to) in
    let P : Option Kept → Type 0 = λ o. IsKeptStep c.self.inside.lines c.erase.new.lines (f c.self.inside.lines) o in
    let kept : IsKeptAlone c.self.inside.lines c.erase.new.lines (f c.self.inside.lines) c.in-Some.change = subst P c.in-Some.is c.in_ok-change.ensures.kept in
    (history-edited f c.self.inside.lines c.erase.new.lines c.self.inside.branches.items c.reserve.new.branches.items c.add.new.branches.items c.self.inside.current c.self.inside.saved c.add.new.current c.args.who _ _ (vec_len c.add.new.branches) (vec_capacity c.add.new.branches) (seen_pending c.self.inside.pending) (seen_pending c.reserve.new.pending) (seen_pending c.add.new.pending) c.in-Some.change c.args.self.now c.self.invariant c.self.view_is kept c.requires.nodes c.in_ok-fresh.ensures.branches c.in_ok-fresh.ensures.group c.add.ensures.branches c.add.ensures.current c.add.ensures.group c.add.ensures.room).0

pub returns-in-Some-clause-story : goal.returns-in-Some-clause-story
returns-in-Some-clause-story c =
    let f : List ℕ → List Change = λ t. erasure t (offset t c.args.from) (offset t c.args.to) in
    let P : Option Kept → Type 0 = λ o. IsKeptStep c.self.inside.lines c.erase.new.lines (f c.self.inside.lines) o in
    let kept : IsKeptAlone c.self.inside.lines c.erase.new.lines (f c.self.inside.lines) c.in-Some.change = subst P c.in-Some.is c.in_ok-change.ensures.kept in
    (history-edited f c.self.inside.lines c.erase.new.lines c.self.inside.branches.items c.reserve.new.branches.items c.add.new.branches.items c.self.inside.current c.self.inside.saved c.add.new.current c.args.who _ _ (vec_len c.add.new.branches) (vec_capacity c.add.new.branches) (seen_pending c.self.inside.pending) (seen_pending c.reserve.new.pending) (seen_pending c.add.new.pending) c.in-Some.change c.args.self.now c.self.invariant c.self.view_is kept c.requires.nodes c.in_ok-fresh.ensures.branches c.in_ok-fresh.ensures.group c.add.ensures.branches c.add.ensures.current c.add.ensures.group c.add.ensures.room).1
