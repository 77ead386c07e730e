pub mod PartsLaid
