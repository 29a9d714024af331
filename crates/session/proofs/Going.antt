-- The loop of a run: what holds of it at every record, and that a record whose act is done leaves it so. Assumes nothing.
use Rattle.std.proofs.Common.{◌≡◌, ℕ, Bool, ◌+◌, ◌-◌, ◌*◌, ◌^◌, ◌<◌, ◌≤◌, List, [], length, get_or, drop, sym, refl, ap, ◌∙◌, arith, length-drop}
use Rattle.std.specs.Prelude.{Result, Ok}
use Rattle.answer.specs.declared.Refusal.{Refusal}
use Rattle.ranges.specs.Fields.{outside}
use Rattle.bench.specs.declared.Setting.{Setting}
use Rattle.bench.specs.declared.Live.{Live}
use Rattle.bench.specs.declared.Port.{Port}
use Rattle.bench.specs.declared.Act.{Act}
use Rattle.bench.specs.Methods.{Method, annex_d}
use Rattle.bench.specs.Ports.{no_port, index_of}
use Rattle.record.specs.declared.Record.{Record}
use Rattle.record.specs.Format.{form, record_by}
use Rattle.record.proofs.Form.{Found, whole_found, whole_fits}
use Rattle.session.specs.declared.State.{State}
use Rattle.session.specs.Text.{Written, line_room}
use Rattle.session.specs.Run.{act_by, plus, more, refused_after, line_for, state_of}
use Rattle.bench.specs.Columns.{ports_of, packed, settings_of, lives_of, all_bins_of}
use Rattle.bench.proofs.Beside.{Eight, get_or-columns, columns_of, packed_same}
use Rattle.bench.proofs.Acted.{act_ports, answer_in, Acted}
use Rattle.session.proofs.Link.{Link, begin, entry_in, stepped, more-plus}

-- a run from st₀ over s of at most `room` records, which writes to out₀, with the ports in columns: `left` records may follow
pub record Going (st₀ : State) (s out₀ : List ℕ) (room records : ℕ) (out : List ℕ) (settings : List Setting) (lives : List Live) (bins : List (List ℕ)) (refused left at written : ℕ) : Type 0 where
  pub eight : Eight settings lives bins
  pub within : at ≤ length s
  pub kept : length out ≡ length out₀
  pub fits : written + line_room * left ≤ length out₀
  pub some : left ≤ room
  pub link : Link st₀ s out₀ room out (state_of (packed settings lives bins) (plus records (room - left)) refused) left at written

-- before the first record, with the columns of the bench
pub starts : (st : State) (s out : List ℕ) (room : ℕ) {settings : List Setting} {lives : List Live} {bins : List (List ℕ)}
    → settings ≡ settings_of st.bench → lives ≡ lives_of st.bench → bins ≡ all_bins_of st.bench → Eight settings lives bins
    → line_room * room ≤ length out → st.records < 2 ^ 64 → Going st s out room st.records out settings lives bins st.refused room 0 0
starts st s out room {settings} {lives} {bins} hs hl hb eight fits small =
    let bench : packed settings lives bins ≡ st.bench = packed_same hs hl hb ∙ ap (λ (p : List Port). record { ports = p }) (columns_of st.bench.ports) in
    let none : plus st.records (room - room) ≡ st.records = omega arith in
    record {
      eight = eight;
      within = omega arith;
      kept = refl;
      fits = omega arith;
      some = omega arith;
      link = rw (bench, none) (begin st s out room);
    }

module _ {st₀ : State} {s out₀ : List ℕ} {room records : ℕ} {out : List ℕ} {settings : List Setting} {lives : List Live} {bins : List (List ℕ)} {refused left at written : ℕ}
    (g : Going st₀ s out₀ room records out settings lives bins refused left at written) (one : 0 < left)
    {r : Record} (read : record_by (form (drop at s)) (drop at s) at ≡ Ok r)
    {k : ℕ} (here : k ≡ index_of r.port) (below : k < 8) {o : Bool} (out_is : o ≡ outside 1 8 r.port) (xs : Setting) (xl : Live)
    {by : Method} (method : by ≡ annex_d)
    {a : Result Act Refusal} (asked : a ≡ act_by by o (get_or settings k xs) (entry_in s r)) where
  f : Found (form (drop at s)) (drop at s) at r
  f = whole_found (form (drop at s)) (drop at s) at r read

  number_is : plus records (room - (left - 1)) ≡ more (plus records (room - left))
  number_is =
      let n : room - (left - 1) ≡ room - left + 1 = omega (arith, g.some) in
      ap (plus records) n ∙ more-plus records (room - left)

  setting_is : get_or settings k xs ≡ (get_or (ports_of settings lives bins) (index_of r.port) no_port).setting
  setting_is =
      sym (ap (λ (p : Port). p.setting) (get_or-columns settings lives bins g.eight k xs xl [] no_port below))
      ∙ ap (λ (q : ℕ). (get_or (ports_of settings lives bins) q no_port).setting) here

  asked_here : a ≡ act_by by (outside 1 8 r.port) (get_or settings k xs) (entry_in s r)
  asked_here = asked ∙ ap (λ (q : Bool). act_by by q (get_or settings k xs) (entry_in s r)) out_is

  pub goes_on : {out' : List ℕ} {settings' : List Setting} {lives' : List Live} {bins' : List (List ℕ)} {refused' written' : ℕ}
      → Acted settings lives bins k r.clock settings' lives' bins' a
      → refused' ≡ refused_after refused (answer_in a)
      → Written out written (line_for (plus records (room - (left - 1))) (answer_in a)) written' out'
      → written' ≤ written + line_room → length out' ≡ length out
      → Going st₀ s out₀ room records out' settings' lives' bins' refused' (left - 1) r.next written'
  goes_on {out'} {settings'} {lives'} {bins'} {refused'} {written'} acted hr v w n =
      let l = stepped st₀ s out₀ room out (packed settings lives bins) (plus records (room - left)) refused left at written g.link
      out' r (plus records (room - (left - 1))) written' (get_or settings k xs) a by f one method setting_is asked_here number_is v in
      let ports : ports_of settings' lives' bins' ≡ act_ports (ports_of settings lives bins) (index_of r.port) r.clock a =
      acted.ports ∙ ap (λ (q : ℕ). act_ports (ports_of settings lives bins) q r.clock a) here in
      record {
        eight = acted.eight;
        within = omega (arith, whole_fits (drop at s) f.is_whole_lem, length-drop at s, f.start, f.next, g.within);
        kept = n ∙ g.kept;
        fits = omega (arith, g.fits);
        some = omega (arith, g.some);
        link = rw (ports, hr) l;
      }
