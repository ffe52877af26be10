use Rattle.std.proofs.Common.{◌≡◌, ℕ, ◌≤◌, List, [], ◌∷◌, ◌++◌, length, ap, ◌∙◌, sym, arith, rules}
use Rattle.std.proofs.lemmas.Result.{err_from_is_err_and}
use Rattle.std.specs.Str.{chars}
use Rattle.kak_words.specs.declared.parts.Word.{Word}
use Rattle.kak_words.specs.Reading.{commands_from, commands_of, command_on, begins_comment}
use Rattle.kak_words.proofs.ReadingLemmas.{commands_before, commands_before-none, length-placed_from, on-end, on-comment, on-word, unclosed-word}
use Rattle.kak_words.proofs.reading.read_commands.Goals as goal

pub loop-p-init : goal.loop-p-init
loop-p-init c =
    let text : List ℕ = chars c.args.text.now in
    let all = c.as_slice-rest.ensures.value ∙ c.in_ok-all.ensures in
    let fits : length c.as_slice-rest.result.now ≤ length text = omega (arith, ap length all, length-placed_from 0 text) in (
      length text,
      fits,
      ap (λ cs. commands_before cs (commands_from (length text) c.new-words.result.items c.as_slice-rest.result.now)) c.new-commands.ensures.items
          ∙ ap (λ ws. commands_before [] (commands_from (length text) ws c.as_slice-rest.result.now)) c.new-words.ensures.items
          ∙ ap (λ rest. commands_before [] (commands_from (length text) [] rest)) all
          ∙ commands_before-none (commands_of text),
    )

pub loop-p-preserved-then-ends_command : goal.loop-p-preserved-then-ends_command
loop-p-preserved-then-ends_command c =
    let pushed = c.in_ok-push_command.ensures ∙ ap (λ (ws : List Word). c.loop-p.commands.items ++ command_on ws []) (ap (λ w. w.items) c.replace.ensures.value) in
    let empty = ap (λ w. w.items) c.replace.ensures.after ∙ c.new.ensures.items in
    let on = on-end c.loop-p.commands.items c.push_command.new.commands.items c.loop-p.words.items c.in-Some.p.now c.in-Some.behind.now c.loop-p.rest.now c.loop-p.invariant.0 (commands_of (chars c.args.text.now))
    c.in-Some.ensures.cases.0 (sym c.is_blank.ensures ∙ c.if-is_blank.false) (sym c.ends_command.ensures ∙ c.if-ends_command.true) pushed c.loop-p.invariant.1 c.loop-p.invariant.2 in
    (on.0, on.1, ap (λ ws. commands_before c.push_command.new.commands.items (commands_from on.0 ws c.in-Some.behind.now)) empty ∙ on.2)

pub loop-p-preserved-then-begins_comment : goal.loop-p-preserved-then-begins_comment
loop-p-preserved-then-begins_comment c =
    let fresh = ap (λ (ws : List Word). begins_comment c.in-Some.p.now.c ws) c.as_slice.ensures.value in
    on-comment c.loop-p.commands.items c.loop-p.words.items c.in-Some.p.now c.in-Some.behind.now c.loop-p.rest.now c.past_comment-rest.result.now c.loop-p.invariant.0 (commands_of (chars c.args.text.now))
    c.in-Some.ensures.cases.0 (sym c.is_blank.ensures ∙ c.if-is_blank.false) (sym c.ends_command.ensures ∙ c.if-ends_command.false) (sym fresh ∙ sym c.begins_comment.ensures ∙ c.if-begins_comment.true) c.past_comment-rest.ensures.rest c.past_comment-rest.ensures.shorter c.loop-p.invariant.1 c.loop-p.invariant.2

pub returns-in_err-word-clause-unclosed : goal.returns-in_err-word-clause-unclosed
returns-in_err-word-clause-unclosed c =
    let fresh = ap (λ (ws : List Word). begins_comment c.in-Some.p.now.c ws) c.as_slice.ensures.value in
    let unclosed = unclosed-word c.in_err-word.field-0.0 c.loop-p.commands.items c.loop-p.words.items c.in-Some.p.now c.in-Some.behind.now c.loop-p.rest.now c.loop-p.invariant.0 (commands_of (chars c.args.text.now))
    c.in-Some.ensures.cases.0 (sym c.is_blank.ensures ∙ c.if-is_blank.false) (sym c.ends_command.ensures ∙ c.if-ends_command.false) (sym fresh ∙ sym c.begins_comment.ensures ∙ c.if-begins_comment.false) c.in_err-word.ensures.unclosed c.loop-p.invariant.1 c.loop-p.invariant.2 in
    let p = err_from_is_err_and c.from_residual-in_err-word.result c.from_residual-in_err-word.ensures.1 in rw (p.1, p.2) unclosed

pub loop-p-preserved : goal.loop-p-preserved
loop-p-preserved c =
    let fresh = ap (λ (ws : List Word). begins_comment c.in-Some.p.now.c ws) c.as_slice.ensures.value in
    let pushed : c.push.new.self.items ≡ c.loop-p.words.items ++ c.in_ok-word.word ∷ [] = search rules in
    on-word c.loop-p.commands.items c.loop-p.words.items c.push.new.self.items c.in_ok-word.word c.in-Some.p.now c.in-Some.behind.now c.loop-p.rest.now c.in_ok-word.further.now c.loop-p.invariant.0 (commands_of (chars c.args.text.now))
    c.in-Some.ensures.cases.0 (sym c.is_blank.ensures ∙ c.if-is_blank.false) (sym c.ends_command.ensures ∙ c.if-ends_command.false) (sym fresh ∙ sym c.begins_comment.ensures ∙ c.if-begins_comment.false) c.in_ok-word.ensures.word c.in_ok-word.ensures.shorter pushed c.loop-p.invariant.1 c.loop-p.invariant.2
