-- What comes of the settings and of the session's own requests.
use Rattle.std.specs.Prelude.{ℕ, List, [], ◌∷◌, ◌++◌, filter_map, Option, None, Some}
use Rattle.std.specs.Result.{result_ok}
use Rattle.serde_json.specs.Data.{Data}
use Rattle.docs_vfs.specs.FileUrls.{path_of}
use Rattle.lsp_frame.specs.declared.message.RequestId.{RequestId}
use Rattle.lsp_frame.specs.declared.message.Response.{Response}
use Rattle.ra_settings.specs.declared.error.ConfigError.{ConfigError}
use Rattle.layered_settings.specs.Change.{after, errors_after}
use Rattle.layered_settings.specs.declared.change.ConfigChange.{ConfigChange}
use Rattle.ra_config.specs.Config.{ConfigData}
use Rattle.ra_config.specs.Projects.{without}
use Rattle.lsp_frame.specs.Outgoing.{Outgoing, registered, waiting_at, completed}
use Rattle.client.specs.Answers.{settings_in}
use Rattle.client.specs.Client.{Client}
use Rattle.client.specs.declared.handler.ReqHandler.{ReqHandler}
use Rattle.client.specs.declared.handler.ReqHandler.TheVariants.{Ignore, Settings, OpenLogs}

-- ---- the session's own requests

-- one request more waits
abbrev pub after_asking : ReqHandler → Client → Client
after_asking handler client = record client { asked = registered handler client.asked }

-- what is to follow an answer of this id: nothing where no request of the id waits
abbrev pub follows : Option RequestId → Outgoing ReqHandler → Option ReqHandler
follows None asked = None
follows (Some id) asked = waiting_at id asked

-- the request of this id waits no more
abbrev pub asked_after : Option RequestId → Outgoing ReqHandler → Outgoing ReqHandler
asked_after None asked = asked
asked_after (Some id) asked = completed id asked

-- ---- the client's settings

-- the client sets this, and all else stays
abbrev pub client_change : Data → ConfigChange
client_change value = record { client = Some value; user = None; workspace_toml = []; crate_toml = []; parents = None }

-- the settings behind a change
abbrev pub settings_with : ConfigChange → ConfigData → ConfigData
settings_with change settings = record settings { settings = after settings.root_path change settings.settings }

abbrev pub with_client_settings : Option Data → ConfigData → ConfigData
with_client_settings None settings = settings
with_client_settings (Some value) settings = settings_with (client_change value) settings

-- the errors of the last change, where the client sets this
abbrev pub errors_with : Option Data → Client → List ConfigError
errors_with None client = client.errors
errors_with (Some value) client = errors_after client.settings.root_path (client_change value)

-- an answer to a request for the settings brings those that it says
abbrev pub settings_after : Option ReqHandler → Response → ConfigData → ConfigData
settings_after None response settings = settings
settings_after (Some Ignore) response settings = settings
settings_after (Some OpenLogs) response settings = settings
settings_after (Some Settings) response settings = with_client_settings (settings_in response) settings

-- and the errors of those values
abbrev pub errors_behind : Option ReqHandler → Response → Client → List ConfigError
errors_behind None response client = client.errors
errors_behind (Some Ignore) response client = client.errors
errors_behind (Some OpenLogs) response client = client.errors
errors_behind (Some Settings) response client = errors_with (settings_in response) client

-- the request of the answer's id waits no more; where it asked for the settings, they are from now on what the answer
-- says
abbrev pub after_answer : Response → Client → Client
after_answer response client = record {
  settings = settings_after (follows response.id client.asked) response client.settings;
  asked = asked_after response.id client.asked;
  errors = errors_behind (follows response.id client.asked) response client;
}

-- ---- settings files

-- the settings change, and the errors of the values that the change brings take the place of those before
abbrev pub after_change : ConfigChange → Client → Client
after_change change client = record client {
  settings = settings_with change client.settings;
  errors = errors_after client.settings.root_path change;
}

-- ---- the workspaces

-- the paths that URLs name; a URL that names none is left out
abbrev pub paths_named : List (List ℕ) → List (List ℕ)
paths_named urls = filter_map (λ url. result_ok (path_of url)) urls

-- without each of these, in their order: of equal roots the first leaves
abbrev pub without_each : List (List ℕ) → List (List ℕ) → List (List ℕ)
without_each [] roots = roots
without_each (path ∷ paths) roots = without_each paths (without path roots)

-- the removed folders leave, and then the added ones come last
abbrev pub after_folders : List (List ℕ) → List (List ℕ) → Client → Client
after_folders added removed client = record client {
  settings = record client.settings {
    workspace_roots = without_each (paths_named removed)
        client.settings.workspace_roots ++ paths_named added;
  };
}
