use Rattle.std.proofs.Common.{sym, ◌∙◌, arith}
use Rattle.list_shelf.specs.declared.holder.Holder.TheVariants.{Of}
use Rattle.kak_world.proofs.KeptLemmas.{seen-same, nobody-up, away-up, one-up, set-up, past-up}
use Rattle.kak_world.proofs.StoredLemmas.{leave-same, entered-turn}
use Rattle.kak_world.proofs.CalmLemmas.{calm-slot}
use Rattle.kak_world.proofs.turning.bring_turn_up.Goals as goal

pub returns-in_default-clause-up : goal.returns-in_default-clause-up
returns-in_default-clause-up c = nobody-up _ _ _ c.in_default.is

pub returns-then-not-is_here-clause-up : goal.returns-then-not-is_here-clause-up
returns-then-not-is_here-clause-up c = away-up c.in-Some.who _ _ _ c.in-Some.is (sym c.is_here.ensures ∙ c.if-not-is_here.true)

pub client-client-requires : goal.client-client-requires
client-client-requires c = sym c.is_here.ensures ∙ c.if-not-is_here.false

pub returns-then-n-len-clause-up : goal.returns-then-n-len-clause-up
returns-then-n-len-clause-up c = one-up c.in-Some.who _ _ _ _ c.in-Some.is c.client-client.ensures (past-up (Of c.in-Some.who) c.client-client.result.now.shown c.args.buffers.now.items (omega (arith, c.if-n-len.true, c.len.ensures, c.args.buffers.now.ok.0)))

pub returns-clause-seen : goal.returns-clause-seen
returns-clause-seen c = seen-same _ _ _ _ c.index_mut.ensures.value c.enter_slot.ensures.seen

pub returns-clause-up : goal.returns-clause-up
returns-clause-up c = one-up c.in-Some.who _ _ _ _ c.in-Some.is c.client-client.ensures (set-up (Of c.in-Some.who) c.client-client.result.now.shown c.enter_slot.new.slot c.args.buffers.now.items c.enter_slot.ensures.up)

pub returns-in_default-clause-leaves : goal.returns-in_default-clause-leaves
returns-in_default-clause-leaves c = λ k _. leave-same (Of k) c.args.buffers.now.items

pub returns-then-not-is_here-clause-leaves : goal.returns-then-not-is_here-clause-leaves
returns-then-not-is_here-clause-leaves c = λ k _. leave-same (Of k) c.args.buffers.now.items

pub returns-then-n-len-clause-leaves : goal.returns-then-n-len-clause-leaves
returns-then-n-len-clause-leaves c = λ k _. leave-same (Of k) c.args.buffers.now.items

pub returns-clause-leaves : goal.returns-clause-leaves
returns-clause-leaves c = λ k t. entered-turn c.in-Some.who k _ _ _ _ _ c.in-Some.is t c.index_mut.ensures.value c.enter_slot.ensures.leaves

pub returns-clause-calm : goal.returns-clause-calm
returns-clause-calm c = calm-slot _ _ _ _ c.index_mut.ensures.value c.enter_slot.ensures.calm
