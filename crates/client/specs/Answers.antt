-- What the client's answers say (LSP 3.17, `workspace/configuration` and `window/showMessageRequest`).
use Rattle.std.specs.Prelude.{ℕ, Bool, false, List, codes, is_some, if◌then◌else◌, Option, Some, None, option_and_then}
use Rattle.plain.specs.Plain.{is_plain}
use Rattle.serde_json.specs.Data.{Data, Items, no_items, item}
use Rattle.serde_json.specs.Find.{get, as_str, as_array}
use Rattle.lsp_frame.specs.declared.message.Response.{Response}
use Rattle.lsp_frame.specs.declared.message.ResponseError.{ResponseError}

-- ---- the settings: a list with a value for each item that was asked for

abbrev pub first_of : Items → Option Data
first_of no_items = None
first_of (item d ds) = Some d

-- the first value of a list
abbrev pub first_value : Data → Option Data
first_value result = option_and_then first_of (as_array result)

abbrev pub plain_part : Data → Option Data
plain_part value = if is_plain value then Some value else None

abbrev pub settings_by : Option ResponseError → Option Data → Option Data
settings_by (Some error) result = None
settings_by None result = option_and_then plain_part (option_and_then first_value result)

-- the settings that an answer says: the first value of its list, where there is no error and the value is plain
abbrev pub settings_in : Response → Option Data
settings_in response = settings_by response.error response.result

abbrev pub value_fault : Data → Option (List ℕ)
value_fault value = if is_plain value then None else Some (codes "not plain")

abbrev pub answer_fault : Option ResponseError → Option Data → Option (List ℕ)
answer_fault (Some error) result = Some error.message
answer_fault None None = Some (codes "empty")
answer_fault None (Some result) = option_and_then value_fault (first_value result)

-- why an answer says none, where that is a fault: a result that is no list, or has no first value, is none
abbrev pub fault_in : Response → Option (List ℕ)
fault_in response = answer_fault response.error response.result

-- ---- the action that was chosen

-- an action has a title, which is a text
abbrev pub is_action : Data → Bool
is_action result = is_some (option_and_then as_str (get (codes "title") result))

abbrev pub chooses_by : Option ResponseError → Option Data → Bool
chooses_by (Some error) result = false
chooses_by None None = false
chooses_by None (Some result) = is_action result

-- an action was chosen: there is no error, and the result is one
abbrev pub chooses : Response → Bool
chooses response = chooses_by response.error response.result
