-- Lines and what they are read as.
use Rattle.std.specs.Prelude.{◌≡◌, ℕ, pos, negsuc, [], ◌∷◌, Some, None, Ok, Err, codes}
use Rattle.key_names.specs.declared.key.Base.TheVariants.{Char, Esc}
use Rattle.key_names.specs.Reading.{bare}
use Rattle.text_model.specs.declared.coords.Coord.{Coord}
use Rattle.mouse_events.specs.declared.mouse.Button.TheVariants.{Left, Middle, Right}
use Rattle.mouse_events.specs.declared.mouse.Mouse.TheVariants.{Move, Press, Release}
use Rattle.requests.specs.declared.request.Request.TheVariants.{Nothing, Keys, Resize, Scroll, Mouse, MenuSelect}
use Rattle.drawings.specs.declared.refusal.Refusal.TheVariants.{Parse, Invalid, Method, Params, Key}
use Rattle.json_ui.specs.Requests.{read_request}

-- the place of a line and a column
abbrev pub place : ℕ → ℕ → Coord
place line column = record { line = line; column = column }

-- the table of examples
pub record ReadExamples : Type 0 where
  pub spaced : read_request (codes "{ \"jsonrpc\": \"2.0\", \"method\": \"keys\", \"params\": [\"ihi<esc>\"] }") ≡ Ok (Keys (bare (Char 105) ∷ bare (Char 104) ∷ bare (Char 105) ∷ bare Esc ∷ []))
  pub no_byte : read_request [] ≡ Ok Nothing
  pub blanks : read_request (codes " \t\r") ≡ Ok Nothing
  -- no value, or none in UTF-8
  pub unclosed : read_request (codes "{") ≡ Err Parse
  pub not_utf8 : read_request (34 ∷ 255 ∷ 34 ∷ []) ≡ Err Parse
  -- no request object
  pub an_array : read_request (codes "[]") ≡ Err Invalid
  pub other_version : read_request (codes "{\"jsonrpc\":\"1.0\",\"method\":\"keys\",\"params\":[]}") ≡ Err Invalid
  pub no_method : read_request (codes "{\"jsonrpc\":\"2.0\"}") ≡ Err Invalid
  pub method_number : read_request (codes "{\"jsonrpc\":\"2.0\",\"method\":1}") ≡ Err Invalid
  pub other_method : read_request (codes "{\"jsonrpc\":\"2.0\",\"method\":\"key\"}") ≡ Err Method
  -- parameters
  pub missing : read_request (codes "{\"jsonrpc\":\"2.0\",\"method\":\"keys\"}") ≡ Ok (Keys [])
  pub null_parameters : read_request (codes "{\"jsonrpc\":\"2.0\",\"method\":\"keys\",\"params\":null}") ≡ Err Params
  pub last_counts : read_request (codes "{\"method\":\"keys\",\"jsonrpc\":\"2.0\",\"params\":[\"h\"],\"params\":[\"l\"]}") ≡ Ok (Keys (bare (Char 108) ∷ []))
  pub second_key : read_request (codes "{\"jsonrpc\":\"2.0\",\"method\":\"keys\",\"params\":[\"ia\",\"<nope>\"]}") ≡ Err (Key 1)
  -- a parameter that is no string comes before any key
  pub no_string : read_request (codes "{\"jsonrpc\":\"2.0\",\"method\":\"keys\",\"params\":[\"<nope>\",true]}") ≡ Err Params
  -- rows and columns, each brought into 1 to 1,000
  pub size : read_request (codes "{\"jsonrpc\":\"2.0\",\"method\":\"resize\",\"params\":[10,80]}") ≡ Ok (Resize (record { rows = 10; columns = 80 }))
  pub least_and_most : read_request (codes "{\"jsonrpc\":\"2.0\",\"method\":\"resize\",\"params\":[0,1001]}") ≡ Ok (Resize (record { rows = 1; columns = 1000 }))
  pub no_size : read_request (codes "{\"jsonrpc\":\"2.0\",\"method\":\"resize\"}") ≡ Err Params
  pub one_number : read_request (codes "{\"jsonrpc\":\"2.0\",\"method\":\"resize\",\"params\":[10]}") ≡ Err Params
  pub three_numbers : read_request (codes "{\"jsonrpc\":\"2.0\",\"method\":\"resize\",\"params\":[10,80,1]}") ≡ Err Params
  pub below_zero : read_request (codes "{\"jsonrpc\":\"2.0\",\"method\":\"resize\",\"params\":[-1,80]}") ≡ Err Params
  pub number_in_quotes : read_request (codes "{\"jsonrpc\":\"2.0\",\"method\":\"resize\",\"params\":[10,\"80\"]}") ≡ Err Params
  pub no_array : read_request (codes "{\"jsonrpc\":\"2.0\",\"method\":\"resize\",\"params\":10}") ≡ Err Params
  -- lines on or back, with a place or without
  pub on : read_request (codes "{\"jsonrpc\":\"2.0\",\"method\":\"scroll\",\"params\":[3]}") ≡ Ok (Scroll (pos 3) None)
  pub back_at_a_place : read_request (codes "{\"jsonrpc\":\"2.0\",\"method\":\"scroll\",\"params\":[-3,1,2]}") ≡ Ok (Scroll (negsuc 2) (Some (place 1 2)))
  pub scrolled_by_nothing : read_request (codes "{\"jsonrpc\":\"2.0\",\"method\":\"scroll\",\"params\":[]}") ≡ Err Params
  pub half_a_place : read_request (codes "{\"jsonrpc\":\"2.0\",\"method\":\"scroll\",\"params\":[3,1]}") ≡ Err Params
  pub place_below_zero : read_request (codes "{\"jsonrpc\":\"2.0\",\"method\":\"scroll\",\"params\":[3,-1,2]}") ≡ Err Params
  pub four_numbers : read_request (codes "{\"jsonrpc\":\"2.0\",\"method\":\"scroll\",\"params\":[3,1,2,0]}") ≡ Err Params
  pub most_lines_on : read_request (codes "{\"jsonrpc\":\"2.0\",\"method\":\"scroll\",\"params\":[2147483647]}") ≡ Ok (Scroll (pos 2147483647) None)
  pub too_many_on : read_request (codes "{\"jsonrpc\":\"2.0\",\"method\":\"scroll\",\"params\":[2147483648]}") ≡ Err Params
  pub most_lines_back : read_request (codes "{\"jsonrpc\":\"2.0\",\"method\":\"scroll\",\"params\":[-2147483648]}") ≡ Ok (Scroll (negsuc 2147483647) None)
  pub too_many_back : read_request (codes "{\"jsonrpc\":\"2.0\",\"method\":\"scroll\",\"params\":[-2147483649]}") ≡ Err Params
  pub lines_with_an_exponent : read_request (codes "{\"jsonrpc\":\"2.0\",\"method\":\"scroll\",\"params\":[1e0]}") ≡ Err Params
  -- places
  pub moved : read_request (codes "{\"jsonrpc\":\"2.0\",\"method\":\"mouse_move\",\"params\":[4294967295,0]}") ≡ Ok (Mouse (Move (place 4294967295 0)))
  pub line_too_large : read_request (codes "{\"jsonrpc\":\"2.0\",\"method\":\"mouse_move\",\"params\":[4294967296,0]}") ≡ Err Params
  pub no_column : read_request (codes "{\"jsonrpc\":\"2.0\",\"method\":\"mouse_move\",\"params\":[1]}") ≡ Err Params
  pub moved_with_a_button : read_request (codes "{\"jsonrpc\":\"2.0\",\"method\":\"mouse_move\",\"params\":[\"left\",1,2]}") ≡ Err Params
  -- buttons; without one it is the left one
  pub pressed : read_request (codes "{\"jsonrpc\":\"2.0\",\"method\":\"mouse_press\",\"params\":[\"right\",1,2]}") ≡ Ok (Mouse (Press Right (place 1 2)))
  pub left_pressed : read_request (codes "{\"jsonrpc\":\"2.0\",\"method\":\"mouse_press\",\"params\":[1,2]}") ≡ Ok (Mouse (Press Left (place 1 2)))
  pub pressed_nowhere : read_request (codes "{\"jsonrpc\":\"2.0\",\"method\":\"mouse_press\",\"params\":[\"left\",1]}") ≡ Err Params
  pub other_button : read_request (codes "{\"jsonrpc\":\"2.0\",\"method\":\"mouse_press\",\"params\":[\"up\",1,2]}") ≡ Err Params
  pub button_last : read_request (codes "{\"jsonrpc\":\"2.0\",\"method\":\"mouse_press\",\"params\":[1,2,\"left\"]}") ≡ Err Params
  pub released : read_request (codes "{\"jsonrpc\":\"2.0\",\"method\":\"mouse_release\",\"params\":[\"middle\",0,7]}") ≡ Ok (Mouse (Release Middle (place 0 7)))
  pub left_released : read_request (codes "{\"jsonrpc\":\"2.0\",\"method\":\"mouse_release\",\"params\":[0,7]}") ≡ Ok (Mouse (Release Left (place 0 7)))
  pub column_minus_zero : read_request (codes "{\"jsonrpc\":\"2.0\",\"method\":\"mouse_release\",\"params\":[\"left\",0,-0]}") ≡ Err Params
  -- an item of a menu
  pub item : read_request (codes "{\"jsonrpc\":\"2.0\",\"method\":\"menu_select\",\"params\":[0]}") ≡ Ok MenuSelect
  pub item_below_zero : read_request (codes "{\"jsonrpc\":\"2.0\",\"method\":\"menu_select\",\"params\":[-9223372036854775808]}") ≡ Ok MenuSelect
  pub last_item : read_request (codes "{\"jsonrpc\":\"2.0\",\"method\":\"menu_select\",\"params\":[18446744073709551615]}") ≡ Ok MenuSelect
  pub no_item : read_request (codes "{\"jsonrpc\":\"2.0\",\"method\":\"menu_select\",\"params\":[18446744073709551616]}") ≡ Err Params
  pub two_items : read_request (codes "{\"jsonrpc\":\"2.0\",\"method\":\"menu_select\",\"params\":[1,2]}") ≡ Err Params
  pub half_an_item : read_request (codes "{\"jsonrpc\":\"2.0\",\"method\":\"menu_select\",\"params\":[0.5]}") ≡ Err Params
  pub item_missing : read_request (codes "{\"jsonrpc\":\"2.0\",\"method\":\"menu_select\"}") ≡ Err Params
