use Rattle.std.proofs.Common.{rules, ◌≡◌, [], ◌∷◌, ◌++◌, ap, ◌∙◌}
use Rattle.std.specs.Prelude.{IfSome}
use Rattle.session_desk.specs.Histories.{HasGiven, HasMet}
use Rattle.desk_trials.specs.Tally.{who_of, TallyHasPlayed, IsTallyRefused}
use Rattle.desk_trials.proofs.PlayLemmas.{played_in, refused_in, first_of_two, second_of_two}
use Rattle.desk_trials.proofs.both.tally_both.Goals as goal

pub returns-clause-first : goal.returns-clause-first
returns-clause-first g c = let one = c.join-one.result.0.0 in let two = c.join-one.result.1.0 in let history = c.in-Ok.tally.additions in
    let before = c.admit-two.new.keeper.given in let bare : before ≡ [] = search rules in
    let number : one.number ≡ 0 = search rules in let played : TallyHasPlayed one.seen 0 c.args.first.now c.join-one.result.0.1.played = search rules in
    let given = c.leave-2.ensures.given ∙ ap (λ z. z ++ (two.number, two.seen, two.mark) ∷ []) c.leave.ensures.given in
    played_in history one.seen one.mark one.number 0 c.args.first.now c.join-one.result.0.1.played number
    (first_of_two (HasGiven who_of history) _ before (one.number, one.seen, one.mark) (two.number, two.seen, two.mark) bare given c.in-Ok.ensures.history.given) played

pub returns-clause-second : goal.returns-clause-second
returns-clause-second g c = let one = c.join-one.result.0.0 in let two = c.join-one.result.1.0 in let history = c.in-Ok.tally.additions in
    let before = c.admit-two.new.keeper.given in let bare : before ≡ [] = search rules in
    let number : two.number ≡ 1 = search rules in let played : TallyHasPlayed two.seen 1 c.args.second.now c.join-one.result.1.1.played = search rules in
    let given = c.leave-2.ensures.given ∙ ap (λ z. z ++ (two.number, two.seen, two.mark) ∷ []) c.leave.ensures.given in
    played_in history two.seen two.mark two.number 1 c.args.second.now c.join-one.result.1.1.played number
    (second_of_two (HasGiven who_of history) _ before (one.number, one.seen, one.mark) (two.number, two.seen, two.mark) bare given c.in-Ok.ensures.history.given) played

pub returns-clause-stop_of_first : goal.returns-clause-stop_of_first
returns-clause-stop_of_first g c = let one = c.join-one.result.0.0 in let two = c.join-one.result.1.0 in let run = c.join-one.result.0.1 in let history = c.in-Ok.tally.additions in let marked = c.in-Ok.tally.mark in
    let before = c.admit-two.new.keeper.given in let bare : before ≡ [] = search rules in
    let number : one.number ≡ 0 = search rules in
    let refused : IfSome run.stop (λ refusal. IsTallyRefused one.seen one.mark 0 c.args.first.now run.played refusal) = search rules in
    let given = c.leave-2.ensures.given ∙ ap (λ z. z ++ (two.number, two.seen, two.mark) ∷ []) c.leave.ensures.given in
    refused_in history one.seen one.mark marked one.number 0 c.args.first.now run.played run.stop number
    (first_of_two (HasGiven who_of history) _ before (one.number, one.seen, one.mark) (two.number, two.seen, two.mark) bare given c.in-Ok.ensures.history.given)
    (first_of_two (HasMet marked) _ before (one.number, one.seen, one.mark) (two.number, two.seen, two.mark) bare given c.in-Ok.ensures.history.marks) refused

pub returns-clause-stop_of_second : goal.returns-clause-stop_of_second
returns-clause-stop_of_second g c = let one = c.join-one.result.0.0 in let two = c.join-one.result.1.0 in let run = c.join-one.result.1.1 in let history = c.in-Ok.tally.additions in let marked = c.in-Ok.tally.mark in
    let before = c.admit-two.new.keeper.given in let bare : before ≡ [] = search rules in
    let number : two.number ≡ 1 = search rules in
    let refused : IfSome run.stop (λ refusal. IsTallyRefused two.seen two.mark 1 c.args.second.now run.played refusal) = search rules in
    let given = c.leave-2.ensures.given ∙ ap (λ z. z ++ (two.number, two.seen, two.mark) ∷ []) c.leave.ensures.given in
    refused_in history two.seen two.mark marked two.number 1 c.args.second.now run.played run.stop number
    (second_of_two (HasGiven who_of history) _ before (one.number, one.seen, one.mark) (two.number, two.seen, two.mark) bare given c.in-Ok.ensures.history.given)
    (second_of_two (HasMet marked) _ before (one.number, one.seen, one.mark) (two.number, two.seen, two.mark) bare given c.in-Ok.ensures.history.marks) refused
