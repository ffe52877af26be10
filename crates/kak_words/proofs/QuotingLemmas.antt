-- A quoted word is read back.
use Rattle.std.proofs.Common.{◌≡◌, ℕ, ◌+◌, eqb, List, [], ◌∷◌, ◌++◌, length, map, Bool, true, false, cond, Option, Some, Ok, encode_utf8, encode_utf8_all, refl, ap, sym, ◌∙◌, append-nil, append_assoc, arith}
use Rattle.std.proofs.lemmas.Bool.{eqb-true}
use Rattle.std.proofs.lemmas.Str.{encode_ascii, encodes-append}
use Rattle.kak_words.specs.declared.placed.Placed.{Placed}
use Rattle.kak_words.specs.declared.parts.Word.{Word}
use Rattle.kak_words.specs.declared.parts.Piece.TheVariants.{Plain}
use Rattle.kak_words.specs.Results.{then_with}
use Rattle.kak_words.specs.Closing.{SplitAtMark, after_one, after_one_if, placed_from, text_of, up_to}
use Rattle.kak_words.specs.Quoting.{doubled, quoted, quoted_command}
use Rattle.kak_words.specs.Reading.{WordRead, single_word, command_on, commands_from, commands_of}

-- the text before the closing quote of a quoted word, behind which nothing stands
pub record Closed (found : Option SplitAtMark) (cs : List ℕ) : Type 0 where
  pub split : SplitAtMark
  pub is : found ≡ Some split
  pub text : map (λ (p : Placed). p.c) split.inside ≡ cs
  pub nothing : split.rest ≡ []

closed-more : (p : Placed) (found now : Option SplitAtMark) (c : ℕ) (cs : List ℕ) → now ≡ after_one_if p found → p.c ≡ c → Closed found cs → Closed now (c ∷ cs)
closed-more p found now c cs step same closed = record {
  split = after_one p closed.split;
  is = step ∙ ap (after_one_if p) closed.is;
  text = ap (λ x. x ∷ map (λ (q : Placed). q.c) closed.split.inside) same ∙ ap (λ xs. c ∷ xs) closed.text;
  nothing = closed.nothing;
}

closed-step : (b : Bool) (n c : ℕ) (cs : List ℕ) → eqb c 39 ≡ b → ((k : ℕ) → Closed (up_to 39 false (placed_from k (doubled cs ++ 39 ∷ []))) cs) → Closed (up_to 39 false (placed_from n (cond b (39 ∷ 39 ∷ doubled cs) (c ∷ doubled cs) ++ 39 ∷ []))) (c ∷ cs)
closed-step true n c cs e rest =
    closed-more (record { at = n + 1; c = 39 }) (up_to 39 false (placed_from (n + 1 + 1) (doubled cs ++ 39 ∷ []))) (up_to 39 false (placed_from n (39 ∷ 39 ∷ doubled cs ++ 39 ∷ []))) c cs refl (sym (eqb-true c 39 e)) (rest (n + 1 + 1))
closed-step false n c cs e rest =
    let further : List Placed = placed_from (n + 1) (doubled cs ++ 39 ∷ []) in
    closed-more (record { at = n; c = c }) (up_to 39 false further) (up_to 39 false (placed_from n (c ∷ doubled cs ++ 39 ∷ []))) c cs (ap (λ t. cond t (up_to 39 true further) (after_one_if (record { at = n; c = c }) (up_to 39 false further))) e) refl (rest (n + 1))

up_to-quoted : (cs : List ℕ) (n : ℕ) → Closed (up_to 39 false (placed_from n (doubled cs ++ 39 ∷ []))) cs
up_to-quoted [] n = record { split = record { inside = []; rest = [] }; is = refl; text = refl; nothing = refl }
up_to-quoted (c ∷ cs) n = closed-step (eqb c 39) n c cs refl (up_to-quoted cs)

-- the commands of a quoted word
pub commands_of-quoted : (cs : List ℕ) → commands_of (quoted cs) ≡ Ok (quoted_command (encode_utf8_all cs) ∷ [])
commands_of-quoted cs =
    let closed = up_to-quoted cs 1 in
    let m : ℕ = length (doubled cs ++ 39 ∷ []) in
    let word : List ℕ → Word = λ text. record { pieces = Plain text ∷ []; quoted = true } in
    ap (λ found. then_with (λ (r : WordRead). commands_from m (r.word ∷ []) r.rest) (single_word 0 found)) closed.is
    ∙ ap (λ rest. commands_from m (word (text_of closed.split.inside) ∷ []) rest) closed.nothing
    ∙ ap (λ text. Ok (command_on (word (encode_utf8_all text) ∷ []) [])) closed.text

-- the bytes of a quoted word
pub quoted-bytes : (cs before inside all : List ℕ) → before ≡ 39 ∷ [] → inside ≡ before ++ encode_utf8_all (doubled cs) → all ≡ inside ++ 39 ∷ [] → all ≡ encode_utf8_all (quoted cs)
quoted-bytes cs before inside all a b c =
    let quote = encode_ascii 39 (omega arith) in
    c ∙ ap (λ t. t ++ 39 ∷ []) (b ∙ ap (λ t. t ++ encode_utf8_all (doubled cs)) (a ∙ sym quote))
    ∙ append_assoc (encode_utf8 39) (encode_utf8_all (doubled cs)) (39 ∷ [])
    ∙ ap (λ t. encode_utf8 39 ++ (encode_utf8_all (doubled cs) ++ t)) (sym (append-nil (encode_utf8 39) ∙ quote))
    ∙ ap (λ t. encode_utf8 39 ++ t) (sym (encodes-append (doubled cs) (39 ∷ [])))
