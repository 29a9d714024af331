-- Method: the call that nearly every response makes: in time, by T4, with nothing wrong. What it does is said by Table38.antt and Calls.antt; this says
-- when a call is one. Assumes nothing.
use Rattle.std.specs.Prelude.{ℕ, Bool, not, ◌&&◌, ◌||◌, eqb}
use Rattle.scl.specs.Time.{expired_of}
use Rattle.scl.specs.declared.Response.{Response}
use Rattle.fs_master.specs.declared.Master.{Master}
use Rattle.fs_master.specs.Table38.{is_expected, is_old}

-- MTimer is not over, the master waits in 2 or 5, the three checks hold, and the response is not all zero, reports no error and is not old
unfoldable pub is_regular : Master → ℕ → ℕ → Response → Bool
is_regular m w at f =
    not (m.runs && expired_of at m.MTimer w)
    && (eqb m.state 2 || eqb m.state 5)
    && (f.signature_holds && f.port_holds && is_expected m f)
    && not (f.all_zero || f.DCommErr || f.DTimeout || is_old m f)
