use Rattle.std.proofs.Common.{◌≡◌, ◌<◌, ◌+◌, List, ℕ, length, ap, sym, ◌∙◌, subst, arith, OnOk, IfOk, length-append}
use Rattle.text_model.specs.declared.coords.Coord.{Coord}
use Rattle.text_model.specs.Coords.{reached}
use Rattle.text_model.specs.Texts.{IsPlace, offset, end_coord}
use Rattle.text_model.specs.Changes.{ended, put_in, inserted}
use Rattle.text_model.proofs.PlaceLemmas.{offset-below, offset-end}
use Rattle.text_model.proofs.ChangeLemmas.{put_in-inside, length-inserted}
use Rattle.line_buffer.proofs.InsertLemmas.{place_by_line, end_by_line, inserted-inside, put_in-ended, inserted-end}
use Rattle.line_buffer.proofs.lines.Lines.put.Goals as goal

pub returns-then-at-lines-clause-text : goal.returns-then-at-lines-clause-text
returns-then-at-lines-clause-text c =
    let place : IsPlace c.args.self.now c.args.at = place_by_line c.args.self.now c.args.at c.requires (omega (arith, c.line_count-lines.ensures.value)) in
    let P : List ℕ → Type 0 = λ t. OnOk c.put_inside.result (c.put_inside.new.self ≡ t) in
    subst P (sym (inserted-inside c.args.self.now (offset c.args.self.now c.args.at) c.args.chars.now (offset-below c.args.self.now c.args.at place))) c.put_inside.ensures.text

pub returns-then-at-lines-clause-behind : goal.returns-then-at-lines-clause-behind
returns-then-at-lines-clause-behind c =
    let place : IsPlace c.args.self.now c.args.at = place_by_line c.args.self.now c.args.at c.requires (omega (arith, c.line_count-lines.ensures.value)) in
    let P : List ℕ → Type 0 = λ t. IfOk c.put_inside.result (λ b. b ≡ reached c.args.at t) in
    subst P (sym (put_in-inside c.args.self.now (offset c.args.self.now c.args.at) c.args.chars.now (offset-below c.args.self.now c.args.at place))) c.put_inside.ensures.behind

pub returns-then-at-lines-clause-full : goal.returns-then-at-lines-clause-full
returns-then-at-lines-clause-full c =
    let place : IsPlace c.args.self.now c.args.at = place_by_line c.args.self.now c.args.at c.requires (omega (arith, c.line_count-lines.ensures.value)) in
    let below : offset c.args.self.now c.args.at < length c.args.self.now = offset-below c.args.self.now c.args.at place in
    let long : length (inserted c.args.self.now (offset c.args.self.now c.args.at) c.args.chars.now) ≡ length c.args.self.now + length c.args.chars.now =
    length-inserted c.args.self.now (offset c.args.self.now c.args.at) c.args.chars.now (omega arith) ∙ ap (λ t. length c.args.self.now + length t) (put_in-inside c.args.self.now (offset c.args.self.now c.args.at) c.args.chars.now below) in
    rw long c.put_inside.ensures.full

pub returns-clause-text : goal.returns-clause-text
returns-clause-text c =
    let bottom : c.args.at ≡ end_coord c.args.self.now = end_by_line c.args.self.now c.args.at c.requires (omega (arith, c.line_count-lines.ensures.value)) in
    let at : offset c.args.self.now c.args.at ≡ length c.args.self.now = ap (offset c.args.self.now) bottom ∙ offset-end c.args.self.now in
    let P : List ℕ → Type 0 = λ t. OnOk c.put_behind.result (c.put_behind.new.self ≡ t) in
    subst P (sym (inserted-end c.args.self.now (offset c.args.self.now c.args.at) c.args.chars.now at (grind arith))) c.put_behind.ensures.text

pub returns-clause-behind : goal.returns-clause-behind
returns-clause-behind c =
    let bottom : c.args.at ≡ end_coord c.args.self.now = end_by_line c.args.self.now c.args.at c.requires (omega (arith, c.line_count-lines.ensures.value)) in
    let at : offset c.args.self.now c.args.at ≡ length c.args.self.now = ap (offset c.args.self.now) bottom ∙ offset-end c.args.self.now in
    let P : Coord → List ℕ → Type 0 = λ x t. IfOk c.put_behind.result (λ b. b ≡ reached x t) in
    subst (λ (x : Coord). P x (put_in c.args.self.now (offset c.args.self.now c.args.at) c.args.chars.now)) (sym bottom) (subst (λ (t : List ℕ). P (end_coord c.args.self.now) t) (sym (put_in-ended c.args.self.now (offset c.args.self.now c.args.at) c.args.chars.now at (grind arith))) c.put_behind.ensures.behind)

pub returns-clause-full : goal.returns-clause-full
returns-clause-full c =
    let bottom : c.args.at ≡ end_coord c.args.self.now = end_by_line c.args.self.now c.args.at c.requires (omega (arith, c.line_count-lines.ensures.value)) in
    let at : offset c.args.self.now c.args.at ≡ length c.args.self.now = ap (offset c.args.self.now) bottom ∙ offset-end c.args.self.now in
    let long : length (inserted c.args.self.now (offset c.args.self.now c.args.at) c.args.chars.now) ≡ length c.args.self.now + length (ended c.args.chars.now) =
    ap length (inserted-end c.args.self.now (offset c.args.self.now c.args.at) c.args.chars.now at (grind arith)) ∙ length-append c.args.self.now (ended c.args.chars.now) in
    rw long c.put_behind.ensures.full
