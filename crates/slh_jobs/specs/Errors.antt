-- The refusals of the calls on keys and of audits, as refusals of a job.
use Rattle.slh_audit.specs.declared.evidence.AuditError.{AuditError}
use Rattle.slh_audit.specs.declared.evidence.AuditError.TheVariants as audit
use Rattle.slh_dsa.specs.declared.error.Error.{Error as KeyError}
use Rattle.slh_dsa.specs.declared.error.Error.TheVariants as key
use Rattle.slh_jobs.specs.declared.job.Error.{Error}
use Rattle.slh_jobs.specs.declared.job.Error.TheVariants as job

abbrev pub error_of : KeyError → Error
error_of key.Length = job.Length
error_of key.ContextTooLong = job.ContextTooLong
error_of key.RandomizerLength = job.RandomizerLength
error_of key.MessageTooLong = job.MessageTooLong
error_of key.Invalid = job.Invalid
error_of key.Memory = job.Memory

abbrev pub audit_error_of : AuditError → Error
audit_error_of audit.Length = job.Length
audit_error_of audit.ContextTooLong = job.ContextTooLong
audit_error_of audit.MessageTooLong = job.MessageTooLong
audit_error_of audit.KeyMismatch = job.KeyMismatch
audit_error_of audit.Invalid = job.Invalid
