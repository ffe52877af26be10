-- Texts as the pieces that are written for them. First over any lists, then at the texts themselves.
use Rattle.std.proofs.Common.{◌≡◌, ℕ, List, [], ◌∷◌, ◌++◌, refl, sym, ap, ◌∙◌, append_assoc, append-nil}
use Rattle.std.specs.Prelude.{codes, decimal}
use Rattle.kak_faces.specs.declared.face.Face.{Face}
use Rattle.drawings.specs.declared.drawing.Atom.{Atom}
use Rattle.drawings.specs.declared.drawing.DrawnLine.{DrawnLine}
use Rattle.drawings.specs.declared.drawing.Cursor.{Cursor}
use Rattle.drawings.specs.declared.drawing.InfoBox.{InfoBox}
use Rattle.drawings.specs.declared.drawing.Drawing.{Drawing}
use Rattle.drawings.specs.declared.refusal.Refusal.{Refusal}
use Rattle.drawings.specs.declared.refusal.Refusal.TheVariants.{TooLong, Parse, Invalid, Method, Params, Key}
use Rattle.json_writing.specs.JsonText.{all_escaped, separated, string_text, plain_string, array_text, object_text, member_text}
use Rattle.json_writing.specs.Drawings.{colour_text, attribute_texts, face_text, atom_end, atom_text, line_text, lines_text, request_line, draw_lines, status_lines, cursor_lines, cursor_word, place_text, options_lines, info_lines, refresh_lines, drawing_bytes, box_lines}
use Rattle.json_writing.specs.Refusals.{refusal_code, refusal_message, refusal_bytes}

-- a closing character goes with what follows
closed : (a rest : List ℕ) (c : ℕ) → (a ++ c ∷ []) ++ rest ≡ a ++ (c ∷ rest)
closed a rest c = append_assoc a (c ∷ []) rest

-- objects and arrays of few parts
object_two : (m n : List ℕ) → object_text (m ∷ n ∷ []) ≡ 123 ∷ m ++ (44 ∷ n ++ 125 ∷ [])
object_two m n = ap (λ b. 123 ∷ b) (append_assoc m (44 ∷ n ++ []) (125 ∷ []) ∙ ap (λ b. m ++ (44 ∷ b)) (ap (λ x. x ++ 125 ∷ []) (append-nil n)))

object_three : (m n o : List ℕ) → object_text (m ∷ n ∷ o ∷ []) ≡ 123 ∷ m ++ (44 ∷ n ++ (44 ∷ o ++ 125 ∷ []))
object_three m n o =
    ap (λ b. 123 ∷ b) (append_assoc m (44 ∷ n ++ (44 ∷ o ++ [])) (125 ∷ [])
    ∙ ap (λ b. m ++ (44 ∷ b)) (append_assoc n (44 ∷ o ++ []) (125 ∷ []) ∙ ap (λ b. n ++ (44 ∷ b)) (ap (λ x. x ++ 125 ∷ []) (append-nil o))))

object_four : (m n o p : List ℕ) → object_text (m ∷ n ∷ o ∷ p ∷ []) ≡ 123 ∷ m ++ (44 ∷ n ++ (44 ∷ o ++ (44 ∷ p ++ 125 ∷ [])))
object_four m n o p =
    ap (λ b. 123 ∷ b) (append_assoc m (44 ∷ n ++ (44 ∷ o ++ (44 ∷ p ++ []))) (125 ∷ [])
    ∙ ap (λ b. m ++ (44 ∷ b)) (append_assoc n (44 ∷ o ++ (44 ∷ p ++ [])) (125 ∷ [])
    ∙ ap (λ b. n ++ (44 ∷ b)) (append_assoc o (44 ∷ p ++ []) (125 ∷ []) ∙ ap (λ b. o ++ (44 ∷ b)) (ap (λ x. x ++ 125 ∷ []) (append-nil p)))))

-- a face
pub face_text-parts : (face : Face) → codes "{\"attributes\":[" ++ (separated (attribute_texts face.attributes) ++ (codes "],\"bg\":\"" ++ (colour_text face.bg ++ (codes "\",\"fg\":\"" ++ (colour_text face.fg ++ (codes "\",\"underline\":\"" ++ (colour_text face.underline ++ codes "\"}")))))))
    ≡ face_text face
face_text-parts face =
    let s = separated (attribute_texts face.attributes) in
    let bg = colour_text face.bg in
    let fg = colour_text face.fg in
    let ul = colour_text face.underline in
    sym (object_four (member_text (codes "attributes") (array_text (attribute_texts face.attributes))) (member_text (codes "bg") (plain_string bg)) (member_text (codes "fg") (plain_string fg)) (member_text (codes "underline") (plain_string ul))
    ∙ ap (λ b. codes "{\"attributes\":[" ++ b) (closed s (codes ",\"bg\":\"" ++ ((bg ++ 34 ∷ []) ++ (codes ",\"fg\":\"" ++ ((fg ++ 34 ∷ []) ++ (codes ",\"underline\":\"" ++ ((ul ++ 34 ∷ []) ++ 125 ∷ [])))))) 93
    ∙ ap (λ b. s ++ (codes "],\"bg\":\"" ++ b)) (closed bg (codes ",\"fg\":\"" ++ ((fg ++ 34 ∷ []) ++ (codes ",\"underline\":\"" ++ ((ul ++ 34 ∷ []) ++ 125 ∷ [])))) 34
    ∙ ap (λ b. bg ++ (codes "\",\"fg\":\"" ++ b)) (closed fg (codes ",\"underline\":\"" ++ ((ul ++ 34 ∷ []) ++ 125 ∷ [])) 34
    ∙ ap (λ b. fg ++ (codes "\",\"underline\":\"" ++ b)) (closed ul (125 ∷ []) 34)))))

-- an atom
pub atom_text-parts : (atom : Atom) → codes "{\"contents\":\"" ++ (all_escaped atom.contents ++ atom_end atom.face) ≡ atom_text atom
atom_text-parts atom =
    sym (object_two (member_text (codes "contents") (string_text atom.contents)) (member_text (codes "face") (face_text atom.face))
    ∙ ap (λ b. codes "{\"contents\":\"" ++ b) (closed (all_escaped atom.contents) (codes ",\"face\":" ++ (face_text atom.face ++ codes "}")) 34))

-- a request
pub request_line-parts : (method : List ℕ) (parameters : List (List ℕ)) → request_line method parameters ≡ codes "{\"jsonrpc\":\"2.0\",\"method\":\"" ++ (method ++ (codes "\",\"params\":[" ++ (separated parameters ++ codes "]}\n")))
request_line-parts method parameters =
    let s = separated parameters in
    ap (λ b. b ++ 10 ∷ []) (object_three (member_text (codes "jsonrpc") (plain_string (codes "2.0"))) (member_text (codes "method") (plain_string method)) (member_text (codes "params") (array_text parameters)))
    ∙ ap (λ b. codes "{\"jsonrpc\":\"2.0\",\"method\":\"" ++ b) (ap (λ b. b ++ 10 ∷ []) (closed method (codes ",\"params\":[" ++ ((s ++ 93 ∷ []) ++ 125 ∷ [])) 34) ∙ append_assoc method (codes "\",\"params\":[" ++ ((s ++ 93 ∷ []) ++ 125 ∷ [])) (10 ∷ [])
    ∙ ap (λ b. method ++ (codes "\",\"params\":[" ++ b)) (append_assoc (s ++ 93 ∷ []) (125 ∷ []) (10 ∷ []) ∙ closed s (125 ∷ 10 ∷ []) 93))

-- parts with commas between them, before what ends them
two_parts : (a b rest : List ℕ) → separated (a ∷ b ∷ []) ++ rest ≡ a ++ (44 ∷ b ++ rest)
two_parts a b rest = append_assoc a (44 ∷ b ++ []) rest ∙ ap (λ x. a ++ (44 ∷ x ++ rest)) (append-nil b)

three_parts : (a b c rest : List ℕ) → separated (a ∷ b ∷ c ∷ []) ++ rest ≡ a ++ (44 ∷ b ++ (44 ∷ c ++ rest))
three_parts a b c rest =
    append_assoc a (44 ∷ b ++ (44 ∷ c ++ [])) rest ∙ ap (λ x. a ++ (44 ∷ x)) (append_assoc b (44 ∷ c ++ []) rest ∙ ap (λ x. b ++ (44 ∷ x ++ rest)) (append-nil c))

five_parts : (a b c d e rest : List ℕ) → separated (a ∷ b ∷ c ∷ d ∷ e ∷ []) ++ rest ≡ a ++ (44 ∷ b ++ (44 ∷ c ++ (44 ∷ d ++ (44 ∷ e ++ rest))))
five_parts a b c d e rest =
    append_assoc a (44 ∷ b ++ (44 ∷ c ++ (44 ∷ d ++ (44 ∷ e ++ [])))) rest
    ∙ ap (λ x. a ++ (44 ∷ x)) (append_assoc b (44 ∷ c ++ (44 ∷ d ++ (44 ∷ e ++ []))) rest
    ∙ ap (λ x. b ++ (44 ∷ x)) (append_assoc c (44 ∷ d ++ (44 ∷ e ++ [])) rest
    ∙ ap (λ x. c ++ (44 ∷ x)) (append_assoc d (44 ∷ e ++ []) rest ∙ ap (λ x. d ++ (44 ∷ x ++ rest)) (append-nil e))))

pub draw_lines-parts : (lines : List DrawnLine) (above below : Face) → codes "{\"jsonrpc\":\"2.0\",\"method\":\"draw\",\"params\":[" ++ (lines_text lines ++ (44 ∷ face_text above ++ (44 ∷ face_text below ++ codes "]}\n"))) ≡ draw_lines lines above below
draw_lines-parts lines above below =
    sym (request_line-parts (codes "draw") (lines_text lines ∷ face_text above ∷ face_text below ∷ [])
    ∙ ap (λ b. codes "{\"jsonrpc\":\"2.0\",\"method\":\"draw\",\"params\":[" ++ b) (three_parts (lines_text lines) (face_text above) (face_text below) (codes "]}\n")))

pub status_lines-parts : (status mode_line : DrawnLine) (face : Face) → codes "{\"jsonrpc\":\"2.0\",\"method\":\"draw_status\",\"params\":[" ++ (line_text status ++ (44 ∷ line_text mode_line ++ (44 ∷ face_text face ++ codes "]}\n"))) ≡ status_lines status mode_line face
status_lines-parts status mode_line face =
    sym (request_line-parts (codes "draw_status") (line_text status ∷ line_text mode_line ∷ face_text face ∷ [])
    ∙ ap (λ b. codes "{\"jsonrpc\":\"2.0\",\"method\":\"draw_status\",\"params\":[" ++ b) (three_parts (line_text status) (line_text mode_line) (face_text face) (codes "]}\n")))

pub place_text-parts : (line column : ℕ) → (codes "{\"column\":" ++ decimal column) ++ (codes ",\"line\":" ++ (decimal line ++ codes "}")) ≡ place_text line column
place_text-parts line column = sym (object_two (member_text (codes "column") (decimal column)) (member_text (codes "line") (decimal line)))

pub cursor_lines-parts : (cursor : Cursor) → (codes "{\"jsonrpc\":\"2.0\",\"method\":\"set_cursor\",\"params\":[\"" ++ cursor_word cursor.prompt) ++ (codes "\"," ++ (place_text cursor.line cursor.column ++ codes "]}\n")) ≡ cursor_lines cursor
cursor_lines-parts cursor =
    let word = cursor_word cursor.prompt in
    let place = place_text cursor.line cursor.column in
    sym (request_line-parts (codes "set_cursor") (plain_string word ∷ place ∷ [])
    ∙ ap (λ b. codes "{\"jsonrpc\":\"2.0\",\"method\":\"set_cursor\",\"params\":[" ++ b) (two_parts (plain_string word) place (codes "]}\n") ∙ ap (λ b. 34 ∷ b) (closed word (44 ∷ place ++ codes "]}\n") 34)))

pub box_lines-parts : (box : InfoBox) → (codes "{\"jsonrpc\":\"2.0\",\"method\":\"info_show\",\"params\":[" ++ line_text box.title) ++ ((44 ∷ lines_text box.content) ++ (codes ",{\"column\":0,\"line\":0}," ++ (face_text box.face ++ codes ",\"prompt\"]}\n"))) ≡ box_lines box
box_lines-parts box =
    sym (request_line-parts (codes "info_show") (line_text box.title ∷ lines_text box.content ∷ codes "{\"column\":0,\"line\":0}" ∷ face_text box.face ∷ codes "\"prompt\"" ∷ [])
    ∙ ap (λ b. codes "{\"jsonrpc\":\"2.0\",\"method\":\"info_show\",\"params\":[" ++ b) (five_parts (line_text box.title) (lines_text box.content) (codes "{\"column\":0,\"line\":0}") (face_text box.face) (codes "\"prompt\"") (codes "]}\n")))

-- what follows the number in the message of a key's refusal
after_number : (d r : List ℕ) → (((((d ++ 34 ∷ []) ++ []) ++ 125 ∷ []) ++ r) ++ 125 ∷ []) ++ 10 ∷ [] ≡ d ++ (34 ∷ 125 ∷ (r ++ 125 ∷ 10 ∷ []))
after_number d r = simp append_assoc

pub refusal_bytes-parts : (refusal : Refusal) → (codes "{\"error\":{\"code\":" ++ (refusal_code refusal ++ codes ",\"message\":\"")) ++ (refusal_message refusal ++ codes "\"},\"id\":null,\"jsonrpc\":\"2.0\"}\n") ≡ refusal_bytes refusal
refusal_bytes-parts TooLong = refl
refusal_bytes-parts Parse = refl
refusal_bytes-parts Invalid = refl
refusal_bytes-parts Method = refl
refusal_bytes-parts Params = refl
refusal_bytes-parts (Key k) =
    ap (λ b. codes "{\"error\":{\"code\":-32602,\"message\":\"Key " ++ b) (sym (after_number (decimal k) (codes ",\"id\":null,\"jsonrpc\":\"2.0\"")))

-- a drawing in four pieces, the first of which has three
four_pieces : (a b c d e f : List ℕ) → (a ++ (b ++ c)) ++ (d ++ (e ++ f)) ≡ a ++ (b ++ (c ++ (d ++ (e ++ f))))
four_pieces a b c d e f = append_assoc a (b ++ c) (d ++ (e ++ f)) ∙ ap (λ x. a ++ x) (append_assoc b c (d ++ (e ++ f)))

pub drawing_bytes-parts : (d : Drawing) → (options_lines d.first ++ (draw_lines d.lines d.default_face d.padding_face ++ status_lines d.status d.mode_line d.status_face)) ++ (cursor_lines d.cursor ++ (info_lines d.info ++ refresh_lines)) ≡ drawing_bytes d
drawing_bytes-parts d =
    four_pieces (options_lines d.first) (draw_lines d.lines d.default_face d.padding_face) (status_lines d.status d.mode_line d.status_face) (cursor_lines d.cursor) (info_lines d.info) refresh_lines
