use Rattle.std.proofs.Common.{◌≡◌, List, [], ◌∷◌, ◌++◌, length, string_bytes, ap, ◌∙◌, arith, rules}
use Rattle.kak_words.specs.declared.placed.Placed.{Placed}
use Rattle.kak_words.specs.declared.parts.Named.{Named}
use Rattle.kak_words.specs.declared.parts.Piece.TheVariants.{Expansion}
use Rattle.kak_words.specs.Closing.{text_of}
use Rattle.kak_words.specs.Forms.{Form}
use Rattle.kak_words.specs.Pieces.{pieces_from, pieces_of, named_by, flushed}
use Rattle.kak_words.proofs.PieceLemmas.{pieces_before, pieces_before-none, on-plain, on-doubled, on-itself, on-form}
use Rattle.kak_words.proofs.double_quotes.pieces_of.Goals as goal

pub loop-p-init : goal.loop-p-init
loop-p-init c = (
  length c.args.text.now,
  omega arith,
  ap (λ ps. pieces_before ps (string_bytes c.new-plain.result) (pieces_of c.args.text.now)) c.new-pieces.ensures.items
      ∙ ap (λ bs. pieces_before [] bs (pieces_of c.args.text.now)) c.new-plain.ensures.bytes
      ∙ pieces_before-none (pieces_of c.args.text.now),
)

pub loop-p-preserved-then-p-ne37 : goal.loop-p-preserved-then-p-ne37
loop-p-preserved-then-p-ne37 c =
    on-plain c.loop-p.pieces.items (string_bytes c.loop-p.plain) (string_bytes c.push.new.self) c.in-Some.p.now c.in-Some.behind.now c.loop-p.rest.now c.loop-p.invariant.0 (pieces_of c.args.text.now)
    c.in-Some.ensures.cases.0 c.if-p-ne37.true c.in_ok-push.ensures.bytes c.loop-p.invariant.1 c.loop-p.invariant.2

pub loop-p-preserved-in-Some-past_percent : goal.loop-p-preserved-in-Some-past_percent
loop-p-preserved-in-Some-past_percent c =
    on-doubled c.loop-p.pieces.items (string_bytes c.loop-p.plain) (string_bytes c.push-in-Some-past_percent.new.self) c.in-Some.p.now c.in-Some.behind.now c.loop-p.rest.now c.in-Some-past_percent.further.now c.loop-p.invariant.0 (pieces_of c.args.text.now)
    c.in-Some.ensures.cases.0 c.if-p-ne37.false c.in-Some-past_percent.ensures.some.0 c.in-Some-past_percent.ensures.some.1 c.in-Some-past_percent.ensures.shorter c.in_ok-push-2.ensures.bytes c.loop-p.invariant.1 c.loop-p.invariant.2

pub loop-p-preserved-in_default-2 : goal.loop-p-preserved-in_default-2
loop-p-preserved-in_default-2 c =
    on-itself c.loop-p.pieces.items (string_bytes c.loop-p.plain) (string_bytes c.push-in_default-2.new.self) c.in-Some.p.now c.in-Some.behind.now c.loop-p.rest.now c.loop-p.invariant.0 (pieces_of c.args.text.now)
    c.in-Some.ensures.cases.0 c.if-p-ne37.false c.in_default-past_percent.ensures.none (rw c.in_default-2.is at c.in_ok-form.ensures.found) c.in_ok-push-3.ensures.bytes c.loop-p.invariant.1 c.loop-p.invariant.2

pub loop-p-preserved : goal.loop-p-preserved
loop-p-preserved c =
    let found = rw c.in-Some-2.is at c.in_ok-form.ensures.found in
    let shorter = rw c.in-Some-2.is at c.in_ok-form.ensures.shorter in
    let form : Form = record { kind = c.in-Some-2.form.kind.now; split = record { inside = c.in-Some-2.form.inside.items; rest = c.in-Some-2.form.rest.now } } in
    let expansion : List Placed → Named = λ name. record { kind = text_of c.in-Some-2.form.kind.now; name = text_of name } in
    let pushed : c.push-in-Some.new.self.items ≡ c.push_plain.new.pieces.items ++ Expansion c.in_ok-named.named ∷ [] = search rules in
    let named : c.in_ok-named.named ≡ named_by form = c.in_ok-named.ensures ∙ ap expansion c.as_slice.ensures.value in
    let before = c.in_ok-push_plain.ensures ∙ ap (λ s. c.loop-p.pieces.items ++ flushed (string_bytes s)) c.replace.ensures.value in
    let all : c.push-in-Some.new.self.items ≡ (c.loop-p.pieces.items ++ flushed (string_bytes c.loop-p.plain)) ++ Expansion (named_by form) ∷ [] =
    pushed ∙ ap (λ ps. ps ++ Expansion c.in_ok-named.named ∷ []) before ∙ ap (λ n. (c.loop-p.pieces.items ++ flushed (string_bytes c.loop-p.plain)) ++ Expansion n ∷ []) named in
    let empty : string_bytes c.replace.new.dest ≡ [] = ap (λ s. string_bytes s) c.replace.ensures.after ∙ c.new.ensures.bytes in
    let on = on-form c.loop-p.pieces.items c.push-in-Some.new.self.items (string_bytes c.loop-p.plain) c.in-Some.p.now c.in-Some.behind.now c.loop-p.rest.now form c.loop-p.invariant.0 (pieces_of c.args.text.now)
    c.in-Some.ensures.cases.0 c.if-p-ne37.false c.in_default-past_percent.ensures.none found shorter all c.loop-p.invariant.1 c.loop-p.invariant.2 in
    (on.0, on.1, ap (λ bs. pieces_before c.push-in-Some.new.self.items bs (pieces_from on.0 c.in-Some-2.form.rest.now)) empty ∙ on.2)
