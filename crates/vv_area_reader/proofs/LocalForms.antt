-- The fields and items of an area read alike wherever their bytes stand.
use Rattle.std.proofs.Common.{ℕ, ◌==◌, Bool, List, []}
use Rattle.vv_record.specs.Reading.{done, number}
use Rattle.vv_record.specs.Forms.{quota, vvol_type_field, note, name_bytes, other_name, offer, offers, need, needs, endpoint, other_endpoint, endpoints}
use Rattle.vv_units.specs.declared.volume.Offer.{Offer}
use Rattle.vv_units.specs.declared.volume.Need.{Need}
use Rattle.vv_units.specs.declared.numbers.EndpointId.{EndpointId}
use Rattle.vv_flat.specs.State.{Container, Volume, Context, Binding, Task}
use Rattle.vv_flat.specs.Chunks.{Entry}
use Rattle.vv_area.specs.Forms.{container_number, container, source_of, kind_field, reverted_field, most_pairs, key_bytes, other_key, pair, metadata, place_field, entry, volume_number, context_host, context, binding_host, binding_endpoint, binding_secondary, address, binding, clone_job, copy_job, job_numbered, job_field, state_field, task_number, task, piece}
use Rattle.vv_area_reader.specs.Heads.{volume_head, clone_head}
use Rattle.vv_area_reader.proofs.Local.{IsLocal, local_then, local_done, local_cond, local_number, local_bytes, local_allowed, local_within, local_items}

-- ---- fields

pub local_quota : IsLocal quota
unfolding quota
local_quota = local_allowed _ _ (local_number 8)

pub local_type : IsLocal vvol_type_field
unfolding vvol_type_field
local_type = local_then _ _ (local_within 1 0 4) (λ n. local_done _)

local_note : IsLocal note
unfolding note
local_note = local_then _ _ (local_within 1 0 96) (λ n. local_allowed _ _ (local_bytes n))

local_name : (n : ℕ) → IsLocal (name_bytes n)
unfolding name_bytes
local_name n = local_allowed _ _ (local_bytes n)

local_other_name : (is_taken : List ℕ → Bool) → IsLocal (other_name is_taken)
unfolding other_name
local_other_name is_taken = local_then _ _ (local_within 1 1 24) (λ n. local_allowed _ _ (local_name n))

local_offer : (before : List Offer) → IsLocal (offer before)
unfolding offer
local_offer before = local_then _ _ (local_other_name _) (λ name. local_then _ _ (local_number 8) (λ value. local_done _))

local_offers : IsLocal offers
unfolding offers
local_offers = local_then _ _ (local_within 1 0 16) (λ n. local_items offer local_offer n [])

local_need : (before : List Need) → IsLocal (need before)
unfolding need
local_need before = local_then _ _ (local_other_name _) (λ name. local_then _ _ (local_number 8) (λ value. local_done _))

pub local_needs : IsLocal needs
unfolding needs
local_needs = local_then _ _ (local_within 1 0 8) (λ n. local_items need local_need n [])

local_endpoint : IsLocal endpoint
unfolding endpoint
local_endpoint = local_then _ _ (local_number 2) (λ n. local_done _)

local_other_endpoint : (before : List EndpointId) → IsLocal (other_endpoint before)
unfolding other_endpoint
local_other_endpoint before = local_allowed _ _ local_endpoint

local_endpoints : IsLocal endpoints
unfolding endpoints
local_endpoints = local_then _ _ (local_within 1 0 8) (λ n. local_items other_endpoint local_other_endpoint n [])

-- ---- containers

local_container_number : (before : List Container) → IsLocal (container_number before)
unfolding container_number
local_container_number before = local_allowed _ _ (local_number 8)

pub local_container : (before : List Container) → IsLocal (container before)
unfolding container
local_container before =
    local_then _ _ (local_container_number before) (λ own. local_then _ _ local_quota (λ most. local_then _ _ local_offers (λ offered. local_done _)))

-- ---- volumes

local_source : (kind : ℕ) → IsLocal (source_of kind)
unfolding source_of
local_source kind = local_allowed _ _ (local_number 8)

pub local_kind : IsLocal kind_field
unfolding kind_field
local_kind = local_then _ _ (local_within 1 0 3) (λ kind. local_then _ _ (local_source kind) (λ source. local_done _))

pub local_reverted : (spelling : ℕ) → IsLocal (reverted_field spelling)
local_reverted spelling = local_cond (spelling == 1) (done 0) (number 8) (local_done 0) (local_number 8)

local_key : (n : ℕ) → IsLocal (key_bytes n)
unfolding key_bytes
local_key n = local_allowed _ _ (local_bytes n)

local_other_key : (before : List (List ℕ × List ℕ)) → IsLocal (other_key before)
unfolding other_key
local_other_key before = local_then _ _ (local_within 1 1 32) (λ n. local_allowed _ _ (local_key n))

local_pair : (before : List (List ℕ × List ℕ)) → IsLocal (pair before)
unfolding pair
local_pair before = local_then _ _ (local_other_key before) (λ key. local_then _ _ local_note (λ text. local_done _))

pub local_metadata : (spelling : ℕ) → IsLocal (metadata spelling)
unfolding metadata
local_metadata spelling = local_then _ _ (local_within 1 0 (most_pairs spelling)) (λ n. local_items pair local_pair n [])

local_place : IsLocal place_field
unfolding place_field
local_place = local_then _ _ (local_number 4) (λ n. local_done _)

pub local_entry : IsLocal entry
unfolding entry
local_entry = local_then _ _ local_place (λ place. local_then _ _ (local_number 8) (λ stamp. local_done _))

pub local_volume_number : (before : List (Volume Entry)) → IsLocal (volume_number before)
unfolding volume_number
local_volume_number before = local_allowed _ _ (local_number 8)

pub local_volume_head : (spelling : ℕ) (before : List (Volume Entry)) → IsLocal (volume_head spelling before)
unfolding volume_head
local_volume_head spelling before =
    local_then _ _ (local_volume_number before) (λ own. local_then _ _ (local_number 8) (λ container. local_then _ _ local_type (λ vtype. local_then _ _ local_kind (λ kind.
    local_then _ _ (local_reverted spelling) (λ reverted. local_then _ _ local_needs (λ asked. local_then _ _ (local_metadata spelling) (λ pairs. local_done _)))))))

-- ---- contexts, bindings

local_context_host : (before : List Context) → IsLocal (context_host before)
unfolding context_host
local_context_host before = local_allowed _ _ (local_within 4 1 64)

pub local_context : (before : List Context) → IsLocal (context before)
unfolding context
local_context before = local_then _ _ (local_context_host before) (λ host. local_then _ _ local_endpoints (λ list. local_done _))

local_binding_host : (before : List Binding) → IsLocal (binding_host before)
unfolding binding_host
local_binding_host before = local_allowed _ _ (local_within 4 1 64)

local_binding_endpoint : (before : List Binding) (host : ℕ) → IsLocal (binding_endpoint before host)
unfolding binding_endpoint
local_binding_endpoint before host = local_allowed _ _ (local_number 2)

local_binding_secondary : (before : List Binding) (host point : ℕ) → IsLocal (binding_secondary before host point)
unfolding binding_secondary
local_binding_secondary before host point = local_allowed _ _ (local_number 2)

local_address : (before : List Binding) → IsLocal (address before)
unfolding address
local_address before =
    local_then _ _ (local_binding_host before) (λ host. local_then _ _ (local_binding_endpoint before host) (λ point. local_then _ _ (local_binding_secondary before host point) (λ secondary. local_done _)))

pub local_binding : (before : List Binding) → IsLocal (binding before)
unfolding binding
local_binding before = local_then _ _ (local_address before) (λ bound_at. local_then _ _ (local_number 8) (λ volume. local_then _ _ (local_number 2) (λ count. local_done _)))

-- ---- tasks

local_clone_job : IsLocal clone_job
unfolding clone_job
local_clone_job = local_then _ _ (local_number 8) (λ volume. local_done _)

local_copy_job : IsLocal copy_job
unfolding copy_job
local_copy_job = local_then _ _ (local_number 8) (λ source. local_then _ _ (local_number 8) (λ base. local_then _ _ (local_number 8) (λ target. local_done _)))

local_job_numbered : (kind : ℕ) → IsLocal (job_numbered kind)
local_job_numbered kind = local_cond (kind == 1) clone_job copy_job local_clone_job local_copy_job

local_job : IsLocal job_field
unfolding job_field
local_job = local_then _ _ (local_within 1 1 2) local_job_numbered

local_state : IsLocal state_field
unfolding state_field
local_state = local_then _ _ (local_within 1 0 3) (λ n. local_done _)

local_task_number : (before : List Task) → IsLocal (task_number before)
unfolding task_number
local_task_number before = local_allowed _ _ (local_number 8)

pub local_task : (before : List Task) → IsLocal (task before)
unfolding task
local_task before =
    local_then _ _ (local_task_number before) (λ own. local_then _ _ local_job (λ job. local_then _ _ local_state (λ state. local_then _ _ (local_number 4) (λ so_far. local_then _ _ (local_number 4) (λ total. local_done _)))))

-- ---- what running tasks hold

pub local_clone_head : (spelling own : ℕ) → IsLocal (clone_head spelling own)
unfolding clone_head
local_clone_head spelling own =
    local_then _ _ (local_number 8) (λ container. local_then _ _ local_type (λ vtype. local_then _ _ local_needs (λ asked. local_then _ _ (local_metadata spelling) (λ pairs. local_done _))))

pub local_piece : IsLocal piece
unfolding piece
local_piece = local_then _ _ (local_number 4) (λ index. local_then _ _ local_entry (λ chunk. local_done _))
