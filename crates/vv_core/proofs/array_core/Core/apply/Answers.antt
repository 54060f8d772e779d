use Rattle.std.proofs.Common.{◌+◌, sym, ap, subst, ◌∙◌}
use Rattle.vv_flat.specs.State.{Volatile, Durable, Array}
use Rattle.vv_flat.specs.Chunks.{Entry}
use Rattle.vv_flat.specs.Replay.{replayed}
use Rattle.vv_flat.specs.Changes.{attentions_after}
use Rattle.vv_laws.specs.VolatileForm.{are_attentions, has_volatile_form}
use Rattle.vv_event.specs.Events.{change_of, places_of}
use Rattle.vv_change.specs.Rooms.{IsCheap, rows_of}
use Rattle.vv_core.specs.Core.{CoreState, seen_core, tables_in, applied}
use Rattle.vv_core.specs.Rooms.{stepped, RoomState, IsEventRoomFor}
use Rattle.vv_core.proofs.Kept.{form_attentions}
use Rattle.vv_core.proofs.WaitingSteps.{stepped_form}
use Rattle.vv_core.proofs.EventRooms.{room_seen, applied_form, applied_is}
use Rattle.vv_core.proofs.array_core.Core.apply.Goals as goal

pub attend-requires : goal.attend-requires
attend-requires g c =
    let i = c.self.inside in
    let d : Durable Entry = i.tables.durable in
    let s = c.room.inside.step in
    let h : IsEventRoomFor (seen_core i.tables i.waiting) c.args.call.now c.args.record.now.event (record { step = s; change = c.room.inside.change }) =
    room_seen (seen_core i.tables i.waiting) c.args.self.now (record { step = s; change = c.room.inside.change }) c.args.room c.args.call.now c.args.record.now.event c.self.view_is c.room.view_is c.requires.room in
    ap (λ (v : Volatile). are_attentions d.bindings v.attentions) c.do_step.ensures
    ∙ form_attentions d (stepped i.waiting s) (stepped_form d i.waiting s h.call.can c.self.invariant)

pub apply-requires-clause-room : goal.apply-requires-clause-room
apply-requires-clause-room g c =
    let i = c.self.inside in
    (room_seen (seen_core i.tables i.waiting) c.args.self.now (record { step = c.room.inside.step; change = c.room.inside.change }) c.args.room c.args.call.now c.args.record.now.event
    c.self.view_is c.room.view_is c.requires.room).change

pub invariant_of-self : goal.invariant_of-self
invariant_of-self g c =
    let i = c.self.inside in
    let s = c.room.inside.step in
    let e = c.args.record.now.event in
    let d : Durable Entry = i.tables.durable in
    let h : IsEventRoomFor (seen_core i.tables i.waiting) c.args.call.now e (record { step = s; change = c.room.inside.change }) =
    room_seen (seen_core i.tables i.waiting) c.args.self.now (record { step = s; change = c.room.inside.change }) c.args.room c.args.call.now e c.self.view_is c.room.view_is c.requires.room in
    ap (λ (x : Durable Entry). has_volatile_form (record { durable = x; volatile = c.attend.new.waiting })) c.apply.ensures.durable
    ∙ ap (λ (w : Volatile). has_volatile_form (record { durable = replayed d (change_of e) (places_of e); volatile = w })) c.attend.ensures
    ∙ ap (λ (w : Volatile). has_volatile_form (record {
      durable = replayed d (change_of e) (places_of e);
      volatile = record w { attentions = attentions_after d (change_of e) w.attentions };
    })) c.do_step.ensures
    ∙ applied_form i.tables i.waiting c.args.call.now e s c.room.inside.change h c.self.invariant

pub returns-clause-rooms : goal.returns-clause-rooms
returns-clause-rooms g c =
    ap (λ (r : RoomState). c.apply.new.tables.rooms + rows_of r.change) (sym c.room.view_is) ∙ c.apply.ensures.rooms ∙ ap (λ (k : CoreState). k.memory.rooms) c.self.view_is

pub returns-clause-steps : goal.returns-clause-steps
returns-clause-steps g c =
    subst (λ (k : CoreState). IsCheap (tables_in k) c.args.record.now.event c.args.steps.now c.apply.new.steps) c.self.view_is c.apply.ensures.steps

pub returns-clause-array : goal.returns-clause-array
returns-clause-array g c =
    let i = c.self.inside in
    let s = c.room.inside.step in
    let e = c.args.record.now.event in
    let d : Durable Entry = i.tables.durable in
    let h : IsEventRoomFor (seen_core i.tables i.waiting) c.args.call.now e (record { step = s; change = c.room.inside.change }) =
    room_seen (seen_core i.tables i.waiting) c.args.self.now (record { step = s; change = c.room.inside.change }) c.args.room c.args.call.now e c.self.view_is c.room.view_is c.requires.room in
    ap {B = Array Entry} (λ (x : Durable Entry). record { durable = x; volatile = c.attend.new.waiting }) c.apply.ensures.durable
    ∙ ap {B = Array Entry} (λ (w : Volatile). record { durable = replayed d (change_of e) (places_of e); volatile = w }) c.attend.ensures
    ∙ ap {B = Array Entry} (λ (w : Volatile). record {
      durable = replayed d (change_of e) (places_of e);
      volatile = record w { attentions = attentions_after d (change_of e) w.attentions };
    }) c.do_step.ensures
    ∙ applied_is i.tables i.waiting c.args.call.now e s c.room.inside.change h
    ∙ ap (λ (k : CoreState). applied k.array c.args.call.now e) c.self.view_is
