pub mod Best
pub mod Banks
pub mod Contents
pub mod BankSound
