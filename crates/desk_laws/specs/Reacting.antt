-- What is done for a request that waits.
use Rattle.std.specs.Prelude.{◌≡◌, ◌⊎◌, ℕ, Some}
use Rattle.serde_json.specs.Data.{Data}
use Rattle.lsp_frame.specs.declared.message.RequestId.{RequestId}
use Rattle.lsp_frame.specs.declared.message.Response.{Response}
use Rattle.method_table.specs.declared.class.PoolClass.{PoolClass}
use Rattle.method_table.specs.declared.row_id.RowId.{RowId}
use Rattle.desk.specs.Reactions.{Reaction, says, hands_over}
use Rattle.desk.specs.Scene.{Scene}

-- one response to this id, or one job for this ticket on the present snapshot, behind so many that were handed over
abbrev pub Reacts : Scene → ℕ → ℕ → RequestId → Reaction → Type 0
Reacts scene last_job ticket id done =
    ((response : Response) × (response.id ≡ Some id) × (done ≡ says response))
    ⊎ ((class : PoolClass) × (row : RowId) × (params : Data)
    × (done ≡ hands_over last_job scene.snapshot class ticket row params))
